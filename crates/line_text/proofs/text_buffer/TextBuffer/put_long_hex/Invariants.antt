use Rattle.std.proofs.Common.{◌≡◌, ◌≤◌, ◌+◌, ◌*◌, ◌/◌, ◌%◌, ◌++◌, length, take}
use Rattle.hex.specs.Hex.{encode_upper}
use Rattle.line_text.specs.Buffer.{text_of, room_of}
use Rattle.line_text.proofs.text_buffer.TextBuffer.put_long_hex.Given as goal

abbrev pub invariant-loop-block : goal.invariant-loop-block
invariant-loop-block l = record {
  rest : l.rest ≡ length l.bytes % 8;
  last : l.block-end ≡ length l.bytes / 8;
  text : text_of l.self ≡ text_of l.fn.self ++ encode_upper (take (l.rest + 8 * l.block) l.bytes);
  room : room_of l.self + 2 * (l.rest + 8 * l.block) ≡ room_of l.fn.self;
  whole : 2 * length l.bytes + 16 ≤ room_of l.fn.self;
}
