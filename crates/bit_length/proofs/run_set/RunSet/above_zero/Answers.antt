use Rattle.std.proofs.Common.{subst}
use Rattle.bit_length.specs.Lengths.{Has, Only, Same}
use Rattle.bit_length.proofs.run_set.RunSet.above_zero.Goals as goal

pub returns-clause-zero : goal.returns-clause-zero
returns-clause-zero c = subst (λ k. Same (Only k) (Has c.args.o.now)) c.if-least-ne0.false c.in_ok-least.ensures.member
