use Rattle.std.proofs.Common.{◌≡◌, ◌≤◌, ◌+◌, ◌*◌, ◌++◌, drop}
use Rattle.line_text.specs.Buffer.{room_of, text_of}
use Rattle.value_json.specs.Words.{escaped}
use Rattle.json_lines.proofs.byte_array.put_escaped.Given as goal

-- the text so far and that of the bytes that are left are all
abbrev pub invariant-loop-byte : goal.invariant-loop-byte
invariant-loop-byte l = record {
  text : text_of l.text ++ escaped (drop l.byte-index l.bytes) ≡ text_of l.initial.text ++ escaped
      l.bytes;
  room : room_of l.initial.text ≤ room_of l.text + 2 * l.byte-index;
}
