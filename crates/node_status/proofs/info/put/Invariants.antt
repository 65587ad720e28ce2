use Rattle.std.proofs.Common.{◌≡◌, ◌++◌, take}
use Rattle.node_status.proofs.info.put.Given as goal

abbrev pub invariant-loop-byte : goal.invariant-loop-byte
invariant-loop-byte l = l.payload ≡ l.initial.payload ++ take l.byte-index l.bytes
