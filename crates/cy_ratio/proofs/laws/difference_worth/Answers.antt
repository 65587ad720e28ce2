use Rattle.cy_ratio.proofs.ValueLemmas.{difference_worth}
use Rattle.cy_ratio.proofs.laws.difference_worth.Goals as goal

pub returns : goal.returns
returns c = difference_worth
