use Rattle.std.proofs.Common.{◌≡◌, true, drop}
use Rattle.dsdl_types.specs.Views.{vals}
use Rattle.value_text.specs.Texts.{are_bytes}
use Rattle.value_json.specs.Json.{bytes_of}
use Rattle.value_json.specs.Words.{are_printable}
use Rattle.value_json.proofs.byte_array.are_printable.Given as goal

-- the bytes so far are printable
abbrev pub invariant-loop-value : goal.invariant-loop-value
invariant-loop-value l = record {
  bytes : are_bytes (vals (drop l.value-index l.values)) ≡ true;
  printable : are_printable (bytes_of (vals (drop l.value-index l.values))) ≡ are_printable (bytes_of (vals l.values));
}
