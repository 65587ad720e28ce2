use Rattle.std.proofs.Common.{◌≡◌, ◌+◌, ◌*◌, take}
use Rattle.line_text.specs.Buffer.{room_of, text_of}
use Rattle.value_lines.specs.Digits.{PutsHex}
use Rattle.value_lines.proofs.hex_line.put_few.Given as goal

-- the bytes of the pairs so far
abbrev pub invariant-loop-pair : goal.invariant-loop-pair
invariant-loop-pair l = record {
  put : PutsHex (take (2 * l.pair) l.hex) (text_of l.fn.bytes) (text_of l.bytes);
  room : l.pair + room_of l.bytes ≡ room_of l.fn.bytes;
}
