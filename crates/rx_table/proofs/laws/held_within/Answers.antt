use Rattle.rx_table.proofs.Lengths.{held_within}
use Rattle.rx_table.proofs.laws.held_within.Goals as goal

pub returns : goal.returns
returns c = held_within
