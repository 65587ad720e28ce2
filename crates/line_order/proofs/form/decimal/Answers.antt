use Rattle.std.proofs.Common.{arith, ◌<◌, ◌^◌}
use Rattle.frame_log.proofs.LineLemmas.{below_decimal}
use Rattle.line_order.proofs.form.decimal.Goals as goal

pub overflow_mul-n : goal.overflow_mul-n
overflow_mul-n c = let h : c.loop-b.n < 10 ^ 11 = below_decimal c.loop-b.n c.loop-b.b-index 11 c.loop-b.invariant.bound (omega arith) in omega arith

pub overflow_add-n : goal.overflow_add-n
overflow_add-n c = let h : c.loop-b.n < 10 ^ 11 = below_decimal c.loop-b.n c.loop-b.b-index 11 c.loop-b.invariant.bound (omega arith) in omega arith

pub returns-clause-bound : goal.returns-clause-bound
returns-clause-bound c = below_decimal c.loop-b.n c.loop-b.b-index 12 c.loop-b.invariant.bound (omega arith)
