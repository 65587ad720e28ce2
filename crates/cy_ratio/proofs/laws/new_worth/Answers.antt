use Rattle.cy_ratio.proofs.ValueLemmas.{fraction_worth}
use Rattle.cy_ratio.proofs.laws.new_worth.Goals as goal

pub returns : goal.returns
returns c = fraction_worth
