use Rattle.std.proofs.Common.{arith}
use Rattle.cy_ratio.proofs.PartLemmas.{gcd-one}
use Rattle.cy_ratio.proofs.ratio.Ratio.floor.Goals as goal

pub invariant_of-result : goal.invariant_of-result
invariant_of-result c = (omega arith, omega arith, gcd-one _)
