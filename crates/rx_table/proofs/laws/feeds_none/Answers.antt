use Rattle.rx_table.proofs.Tables.{feeds_none}
use Rattle.rx_table.proofs.laws.feeds_none.Goals as goal

pub returns : goal.returns
returns c = feeds_none
