use Rattle.std.proofs.Common.{◌≡◌, ◌+◌, ◌*◌, ◌/◌, take}
use Rattle.line_text.specs.Buffer.{room_of, text_of}
use Rattle.value_lines.specs.Digits.{PutsHex}
use Rattle.value_lines.proofs.hex_line.put_long.Given as goal

-- the bytes of the blocks so far
abbrev pub invariant-loop-block : goal.invariant-loop-block
invariant-loop-block l = record {
  put : PutsHex (take (l.rest + 16 * l.block) l.hex) (text_of l.fn.bytes) (text_of l.bytes);
  room : (l.rest / 2 + 8 * l.block) + room_of l.bytes ≡ room_of l.fn.bytes;
}
