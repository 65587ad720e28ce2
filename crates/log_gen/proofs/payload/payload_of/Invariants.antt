use Rattle.std.proofs.Common.{◌≡◌, map, length}
use Rattle.std.specs.List.{range_with_len}
use Rattle.log_gen.specs.Rules.{payload_byte}
use Rattle.log_gen.proofs.payload.payload_of.Given as goal

abbrev pub invariant-loop-place : goal.invariant-loop-place
invariant-loop-place l = record {
  bytes : l.payload ≡ map (payload_byte l.number l.transfer) (range_with_len 0 l.place);
  size : length l.payload ≡ l.place;
}
