use Rattle.std.proofs.Common.{◌≡◌, ◌≤◌, ◌+◌, ◌*◌, ◌/◌, ◌++◌, length, take}
use Rattle.hex.specs.Hex.{encode_upper}
use Rattle.line_text.specs.Buffer.{text_of, room_of}
use Rattle.line_text.proofs.text_buffer.TextBuffer.put_hex_of.Given as goal

abbrev pub invariant-loop-block : goal.invariant-loop-block
invariant-loop-block l = record {
  last : l.block-end ≡ l.n / 8;
  text : text_of l.self ≡ text_of l.fn.self ++ encode_upper (take (8 * l.block) l.bytes);
  room : room_of l.self + 2 * (8 * l.block) ≡ room_of l.fn.self;
  wide : l.n + 8 ≤ length l.bytes;
  whole : 2 * l.n + 16 ≤ room_of l.fn.self;
}
