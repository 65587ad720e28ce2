use Rattle.std.proofs.Common.{◌≡◌, drop}
use Rattle.value_json.specs.Words.{are_printable}
use Rattle.json_lines.proofs.byte_array.are_printable.Given as goal

-- the bytes so far are printable
abbrev pub invariant-loop-byte : goal.invariant-loop-byte
invariant-loop-byte l = are_printable (drop l.byte-index l.bytes) ≡ are_printable l.bytes
