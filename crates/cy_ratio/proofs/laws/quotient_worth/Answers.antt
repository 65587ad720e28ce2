use Rattle.cy_ratio.proofs.ValueLemmas.{quotient_worth}
use Rattle.cy_ratio.proofs.laws.quotient_worth.Goals as goal

pub returns : goal.returns
returns c = quotient_worth
