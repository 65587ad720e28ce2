use Rattle.cy_ratio.proofs.RemainderLemmas.{remainder_part}
use Rattle.cy_ratio.proofs.laws.remainder_part.Goals as goal

pub returns : goal.returns
returns c = remainder_part
