use Rattle.cy_ratio.proofs.ValueLemmas.{product_worth}
use Rattle.cy_ratio.proofs.laws.product_worth.Goals as goal

pub returns : goal.returns
returns c = product_worth
