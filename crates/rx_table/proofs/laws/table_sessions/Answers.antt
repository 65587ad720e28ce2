use Rattle.rx_table.proofs.Tables.{table_simulates}
use Rattle.rx_table.proofs.laws.table_sessions.Goals as goal

pub returns : goal.returns
returns c = table_simulates
