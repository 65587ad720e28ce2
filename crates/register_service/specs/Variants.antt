-- The variants of a register's value, and how many items it has.
use Rattle.std.specs.Prelude.{ℕ, Bool, true, false, length}
use Rattle.dsdl_types.specs.Values.{tag_of}
use Rattle.std_types.specs.RegisterValues.{variant_value}
use Rattle.std_types.specs.declared.register_value.RegisterValue.{RegisterValue}
use Rattle.std_types.specs.declared.register_value.RegisterValue.TheVariants as V

-- the number of a value's variant, in the order of uavcan.register.Value.1.0: the tag of its value
abbrev pub variant : RegisterValue → ℕ
variant v = tag_of (variant_value v)

-- whether a value is a string or unstructured, whose length may change
abbrev pub is_text : RegisterValue → Bool
is_text (V.String bytes) = true
is_text (V.Unstructured bytes) = true
is_text _ = false

-- the number of a value's items
abbrev pub count : RegisterValue → ℕ
count V.Empty = 0
count (V.String bytes) = length bytes
count (V.Unstructured bytes) = length bytes
count (V.Bit items) = length items
count (V.Integer64 items) = length items
count (V.Integer32 items) = length items
count (V.Integer16 items) = length items
count (V.Integer8 items) = length items
count (V.Natural64 items) = length items
count (V.Natural32 items) = length items
count (V.Natural16 items) = length items
count (V.Natural8 items) = length items
count (V.Real64 items) = length items
count (V.Real32 items) = length items
count (V.Real16 items) = length items
