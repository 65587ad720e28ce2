use Rattle.std.proofs.Common.{◌*◌}
use Rattle.line_loop.proofs.Splits.{IsClearTo}
use Rattle.line_loop.proofs.newline.near_newline.Given as goal

abbrev pub invariant-loop-block : goal.invariant-loop-block
invariant-loop-block l = IsClearTo l.bytes (16 * l.block)
