use Rattle.cy_ratio.proofs.ValueLemmas.{sum_worth}
use Rattle.cy_ratio.proofs.laws.sum_worth.Goals as goal

pub returns : goal.returns
returns c = sum_worth
