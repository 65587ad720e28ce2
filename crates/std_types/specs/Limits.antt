-- What the numbers of a register's value are kept within.
use Rattle.std.specs.Prelude.{ℤ, pos, Bool, true, false, ◌&&◌, int_le}
use Rattle.std.specs.List.{list_all}
use Rattle.std_types.specs.declared.register_value.RegisterValue.{RegisterValue}
use Rattle.std_types.specs.declared.register_value.RegisterValue.TheVariants as V
use Rattle.std_types.specs.declared.registers.Limits.{Limits}

-- whether a number lies from the least to the greatest
abbrev pub lies : Limits → ℤ → Bool
lies limits z = int_le limits.low z && int_le z limits.high

-- whether each item of an integer or natural variant does; the items of other variants always do
abbrev pub lie_within : Limits → RegisterValue → Bool
lie_within limits (V.Integer64 items) = list_all (lies limits) items
lie_within limits (V.Integer32 items) = list_all (lies limits) items
lie_within limits (V.Integer16 items) = list_all (lies limits) items
lie_within limits (V.Integer8 items) = list_all (lies limits) items
lie_within limits (V.Natural64 items) = list_all (λ n. lies limits (pos n)) items
lie_within limits (V.Natural32 items) = list_all (λ n. lies limits (pos n)) items
lie_within limits (V.Natural16 items) = list_all (λ n. lies limits (pos n)) items
lie_within limits (V.Natural8 items) = list_all (λ n. lies limits (pos n)) items
lie_within limits _ = true

-- whether a value is of an integer or natural variant, whose items are whole numbers
abbrev pub is_whole : RegisterValue → Bool
is_whole (V.Integer64 items) = true
is_whole (V.Integer32 items) = true
is_whole (V.Integer16 items) = true
is_whole (V.Integer8 items) = true
is_whole (V.Natural64 items) = true
is_whole (V.Natural32 items) = true
is_whole (V.Natural16 items) = true
is_whole (V.Natural8 items) = true
is_whole _ = false
