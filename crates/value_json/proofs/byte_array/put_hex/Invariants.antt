use Rattle.std.proofs.Common.{◌≡◌, ◌++◌, true, drop}
use Rattle.hex.specs.Hex.{encode_upper}
use Rattle.dsdl_types.specs.Views.{vals}
use Rattle.line_text.specs.Buffer.{text_of}
use Rattle.value_text.specs.Texts.{are_bytes}
use Rattle.value_json.specs.Json.{bytes_of}
use Rattle.value_json.specs.Pieces.{Begins}
use Rattle.value_json.proofs.byte_array.put_hex.Given as goal

-- the digits so far and those of the bytes that are left are all
abbrev pub invariant-loop-value : goal.invariant-loop-value
invariant-loop-value l = record {
  bytes : are_bytes (vals (drop l.value-index l.values)) ≡ true;
  text : text_of l.text ++ encode_upper (bytes_of (vals (drop l.value-index l.values))) ≡ text_of l.initial.text ++ encode_upper (bytes_of (vals l.values));
  front : Begins (text_of l.initial.text) (text_of l.text);
}
