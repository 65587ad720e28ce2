use Rattle.std.proofs.Common.{drop}
use Rattle.json_lines.specs.Typed.{IsPlain}
use Rattle.json_lines.proofs.byte_array.are_plain.Given as goal

-- all are plain where those that are left are
abbrev pub invariant-loop-byte : goal.invariant-loop-byte
invariant-loop-byte l = IsPlain (drop l.byte-index l.bytes) → IsPlain l.bytes
