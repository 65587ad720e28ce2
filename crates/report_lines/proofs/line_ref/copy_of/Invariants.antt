use Rattle.std.proofs.Common.{◌≡◌, take}
use Rattle.report_lines.proofs.line_ref.copy_of.Given as goal

abbrev pub invariant-loop-byte : goal.invariant-loop-byte
invariant-loop-byte l = l.copied ≡ take l.byte-index l.bytes
