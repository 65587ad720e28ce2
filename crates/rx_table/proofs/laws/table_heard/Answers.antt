use Rattle.rx_table.proofs.Heard.{table_in_time}
use Rattle.rx_table.proofs.laws.table_heard.Goals as goal

pub returns : goal.returns
returns c = table_in_time
