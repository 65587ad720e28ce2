use Rattle.cy_ratio.proofs.OneLemmas.{across_is}
use Rattle.cy_ratio.proofs.laws.order_worth.Goals as goal

pub returns : goal.returns
returns c = across_is
