-- Schemas: what a data type is once all of its names are resolved (Cyphal Specification, section
-- 3.4).
use Rattle.std.specs.Prelude.{ℕ, suc, ◌-◌, nat_lt, if◌then◌else◌, Bool, true, false, not, List}

-- A primitive type: a truth value, or a number of so many bits. An unsigned integer or a float is
-- saturated (true) or truncated (false); a signed integer is saturated.
pub data Prim : Type 0 where
  PBool : Prim
  PUint : ℕ → Bool → Prim
  PInt : ℕ → Prim
  PFloat : ℕ → Bool → Prim

-- The outline of a composite: its extent in bits, and whether it is sealed. One that isn't is
-- delimited.
pub record Outline : Type 0 where
  pub extent : ℕ
  pub sealed : Bool

-- A schema: a primitive, an array of so many items, an array of at most so many items, a structure
-- of fields, or a union of variants. A structure and a union are composites.
mutual
  pub data Sch : Type 0 where
    Simple : Prim → Sch
    Fixed : Sch → ℕ → Sch
    Var : Sch → ℕ → Sch
    Struct : Flds → Outline → Sch
    Union : Flds → Outline → Sch

  -- The fields of a structure or the variants of a union, in order: so many bits of padding, or a
  -- field with its name.
  pub data Flds : Type 0 where
    End : Flds
    Pad : ℕ → Flds → Flds
    Field : List ℕ → Sch → Flds → Flds

-- the number of fields that aren't padding; of a union its number of variants
abbrev pub variants : Flds → ℕ
variants End = 0
variants (Pad n fs) = variants fs
variants (Field name s fs) = suc (variants fs)

-- the number of fields, padding among them
abbrev pub field_count : Flds → ℕ
field_count End = 0
field_count (Pad n fs) = suc (field_count fs)
field_count (Field name s fs) = suc (field_count fs)

-- A composite, and an array of composites, begins at a multiple of 8 bits.
abbrev pub is_aligned : Sch → Bool
is_aligned (Simple t) = false
is_aligned (Fixed s n) = is_aligned s
is_aligned (Var s n) = is_aligned s
is_aligned (Struct fs o) = true
is_aligned (Union fs o) = true

abbrev pub is_composite : Sch → Bool
is_composite (Simple t) = false
is_composite (Fixed s n) = false
is_composite (Var s n) = false
is_composite (Struct fs o) = true
is_composite (Union fs o) = true

-- A delimited composite inside another type stands behind its delimiter header, a count of its
-- bytes.
abbrev pub is_delimited : Sch → Bool
is_delimited (Simple t) = false
is_delimited (Fixed s n) = false
is_delimited (Var s n) = false
is_delimited (Struct fs o) = not o.sealed
is_delimited (Union fs o) = not o.sealed

-- the extent of a composite, in bits
abbrev pub extent_of : Sch → ℕ
extent_of (Simple t) = 0
extent_of (Fixed s n) = 0
extent_of (Var s n) = 0
extent_of (Struct fs o) = o.extent
extent_of (Union fs o) = o.extent

-- of 8, 16, 32 and 64 bits the least that hold the numbers up to n
abbrev pub holding_bits : ℕ → ℕ
holding_bits n = if nat_lt n 256 then 8 else if nat_lt n 65536 then 16 else if nat_lt n 4294967296 then 32 else 64

-- the bits of an array's length field, by its capacity: they hold the numbers up to it
abbrev pub length_field_bits : ℕ → ℕ
length_field_bits capacity = holding_bits capacity

-- the bits of a union's tag, by the number of its variants: they hold the numbers below it
abbrev pub tag_bits : ℕ → ℕ
tag_bits count = holding_bits (count - 1)

-- the bits of a primitive
abbrev pub width : Prim → ℕ
width PBool = 1
width (PUint w c) = w
width (PInt w) = w
width (PFloat w c) = w
