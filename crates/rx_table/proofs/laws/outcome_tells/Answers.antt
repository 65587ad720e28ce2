use Rattle.rx_table.proofs.Endings.{outcome_tells}
use Rattle.rx_table.proofs.laws.outcome_tells.Goals as goal

pub returns : goal.returns
returns c = outcome_tells
