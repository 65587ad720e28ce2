use Rattle.std.proofs.Common.{◌≡◌, drop}
use Rattle.dsdl_types.specs.Views.{vals}
use Rattle.value_text.specs.Texts.{are_bytes}
use Rattle.value_json.proofs.byte_array.are_bytes.Given as goal

-- the values so far are bytes
abbrev pub invariant-loop-value : goal.invariant-loop-value
invariant-loop-value l = are_bytes (vals (drop l.value-index l.values)) ≡ are_bytes (vals l.values)
