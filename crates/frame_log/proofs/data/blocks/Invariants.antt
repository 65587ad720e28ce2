use Rattle.std.proofs.Common.{◌≡◌, ◌*◌, length}
use Rattle.frame_log.specs.Reads.{IsHex}
use Rattle.frame_log.proofs.data.blocks.Given as goal

abbrev pub invariant-loop-i : goal.invariant-loop-i
invariant-loop-i l = record {
  value : IsHex l.s (2 * l.n) l.bytes;
  count : l.n ≡ length l.bytes;
  at : l.n ≡ 8 * l.i;
}
