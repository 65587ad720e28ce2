use Rattle.rx_table.proofs.Tables.{feeds_one}
use Rattle.rx_table.proofs.laws.feeds_one.Goals as goal

pub returns : goal.returns
returns c = feeds_one
