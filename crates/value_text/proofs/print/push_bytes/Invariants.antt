use Rattle.std.proofs.Common.{◌≡◌, ◌++◌, true, drop, string_bytes}
use Rattle.dsdl_types.specs.Views.{vals}
use Rattle.value_text.specs.Texts.{are_bytes, byte_text, in_a_row}
use Rattle.value_text.proofs.print.push_bytes.Given as goal

-- the digits so far and those of the bytes that are left are all
abbrev pub invariant-loop-value : goal.invariant-loop-value
invariant-loop-value l = record {
  bytes : are_bytes (vals (drop l.value-index l.values)) ≡ true;
  text : string_bytes l.text ++ in_a_row byte_text (vals (drop l.value-index l.values)) ≡ string_bytes l.initial.text ++ in_a_row byte_text (vals l.values);
}
