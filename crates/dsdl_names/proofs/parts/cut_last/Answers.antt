use Rattle.std.proofs.Common.{arith}
use Rattle.dsdl_names.proofs.PartLemmas.{cut_last-at}
use Rattle.dsdl_names.proofs.parts.cut_last.Goals as goal

pub returns-then-text-i : goal.returns-then-text-i
returns-then-text-i c = cut_last-at c.args.b c.loop-i.i c.args.text.now (omega arith) (omega arith) c.if-text-i.true c.loop-i.invariant.none
