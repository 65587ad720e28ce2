use Rattle.std.proofs.Common.{arith, rules}
use Rattle.bit_length.proofs.SumLemmas.{leaves_again, leaves_apart}
use Rattle.bit_length.proofs.run.Run.leaves.Goals as goal

pub returns-then-self-common : goal.returns-then-self-common
returns-then-self-common c = (
  search rules,
  λ h. absurd (let e = leaves_apart c.args.step c.args.k c.args.r c.common_divisor-common.result c.args.self.now c.common_divisor-common.ensures.left c.common_divisor-common.ensures.right h in c.if-self-common.true e),
)

pub returns : goal.returns
returns c = (
  search rules,
  λ h. absurd (let (q, low, high, near, e) = leaves_again c.args.step c.args.k c.args.r c.common_divisor-common.result c.args.self.now c.requires.positive c.common_divisor-common.ensures.left c.common_divisor-common.ensures.right h in c.loop-quotient.invariant q low (omega arith) e),
)
