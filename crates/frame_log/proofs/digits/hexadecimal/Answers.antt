use Rattle.std.proofs.Common.{arith, ◌<◌, ◌^◌}
use Rattle.frame_log.proofs.LineLemmas.{below_hex}
use Rattle.frame_log.proofs.digits.hexadecimal.Goals as goal

pub overflow_mul-n : goal.overflow_mul-n
overflow_mul-n c = let h : c.loop-b.n < 16 ^ 7 = below_hex c.loop-b.n c.loop-b.b-index 7 c.loop-b.invariant.bound (omega arith) in omega arith

pub overflow_add-n : goal.overflow_add-n
overflow_add-n c = let h : c.loop-b.n < 16 ^ 7 = below_hex c.loop-b.n c.loop-b.b-index 7 c.loop-b.invariant.bound (omega arith) in omega arith
