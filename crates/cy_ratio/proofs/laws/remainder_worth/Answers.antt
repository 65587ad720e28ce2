use Rattle.cy_ratio.proofs.RemainderLemmas.{remainder_worth}
use Rattle.cy_ratio.proofs.laws.remainder_worth.Goals as goal

pub returns : goal.returns
returns c = remainder_worth
