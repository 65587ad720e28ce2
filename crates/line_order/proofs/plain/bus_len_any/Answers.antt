use Rattle.std.proofs.Common.{arith}
use Rattle.line_order.proofs.PlainLemmas.{bus-at}
use Rattle.line_order.proofs.plain.bus_len_any.Goals as goal

pub returns-then-s-i-eq32-clause-is : goal.returns-then-s-i-eq32-clause-is
returns-then-s-i-eq32-clause-is c = bus-at c.args.s.now c.loop-i.i (omega arith) c.if-s-i-eq32.true c.loop-i.invariant (omega arith) (omega arith)
