-- The rules that a schema keeps (Cyphal Specification, sections 3.4 and 3.6), and the limits of
-- this compiler.
use Rattle.std.specs.Prelude.{◌≡◌, ℕ, suc, ◌+◌, ◌*◌, ◌-◌, ◌^◌, ◌%◌, ◌≤◌, ◌==◌, ◌||◌, max, Bool}
use Rattle.std.specs.Prelude.{true, false}
use Rattle.dsdl_types.specs.Schemas.{Prim, Sch, Flds, Outline, PBool, PUint, PInt, PFloat, Simple}
use Rattle.dsdl_types.specs.Schemas.{Fixed, Var, Struct, Union, End, Pad, Field, tag_bits, variants}
use Rattle.dsdl_types.specs.Greatest.{up, longest_fields, longest_variant}
use Rattle.dsdl_types.specs.Names.{HasNames}

abbrev pub is_float_width : ℕ → Bool
is_float_width w = (w == 16) || ((w == 32) || (w == 64))

-- An unsigned integer has 1 to 64 bits, a signed one 2 to 64, a float 16, 32 or 64.
abbrev pub IsPrim : Prim → Type 0
IsPrim PBool = Unit {0}
IsPrim (PUint w c) = (1 ≤ w) × (w ≤ 64)
IsPrim (PInt w) = (2 ≤ w) × (w ≤ 64)
IsPrim (PFloat w c) = is_float_width w ≡ true

-- The extent of a sealed composite is its greatest length. That of a delimited one is a multiple of
-- 8 bits that isn't below it. As a limit, no extent is above 2^32 bits.
abbrev pub IsExtent : Bool → ℕ → ℕ → Type 0
IsExtent true greatest extent = extent ≡ greatest
IsExtent false greatest extent = (greatest ≤ extent) × (extent % 8 ≡ 0)

abbrev pub IsOutline : ℕ → Outline → Type 0
IsOutline greatest o = IsExtent o.sealed greatest o.extent × (o.extent ≤ 2 ^ 32)

-- no item of an array is an array
abbrev pub IsItem : Sch → Type 0
IsItem (Fixed s n) = ⊥
IsItem (Var s cap) = ⊥
IsItem _ = Unit {0}

-- no variant of a union is padding
abbrev pub NoPadding : Flds → Type 0
NoPadding End = Unit {0}
NoPadding (Pad n fs) = ⊥
NoPadding (Field name s fs) = NoPadding fs

-- An array has 1 to 2^20 items, or a capacity of 1 to 2^20. A union has at least two variants.
-- Padding has 1 to 64 bits.
abbrev mutual
  pub IsFormed : Sch → Type 0
  IsFormed (Simple t) = IsPrim t
  IsFormed (Fixed s n) = (1 ≤ n) × (n ≤ 2 ^ 20) × IsItem s × IsFormed s
  IsFormed (Var s cap) = (1 ≤ cap) × (cap ≤ 2 ^ 20) × IsItem s × IsFormed s
  IsFormed (Struct fs o) = IsOutline (up (longest_fields fs 0)) o × AreFormed fs
  IsFormed (Union fs o) = IsOutline (up (tag_bits (variants fs) + longest_variant fs)) o × (2 ≤ variants fs) × NoPadding fs × AreFormed fs

  pub AreFormed : Flds → Type 0
  AreFormed End = Unit {0}
  AreFormed (Pad n fs) = (1 ≤ n) × (n ≤ 64) × AreFormed fs
  AreFormed (Field name s fs) = IsFormed s × AreFormed fs

-- how deep arrays and composites stand in one another
abbrev mutual
  pub nesting : Sch → ℕ
  nesting (Simple t) = 0
  nesting (Fixed s n) = suc (nesting s)
  nesting (Var s cap) = suc (nesting s)
  nesting (Struct fs o) = suc (nesting_of fs)
  nesting (Union fs o) = suc (nesting_of fs)

  pub nesting_of : Flds → ℕ
  nesting_of End = 0
  nesting_of (Pad n fs) = nesting_of fs
  nesting_of (Field name s fs) = max (nesting s) (nesting_of fs)

-- The nodes of a value at most: 1 for a primitive, 1 and those of all items for an array, 1 and
-- those of all fields or variants for a composite.
abbrev mutual
  pub nodes : Sch → ℕ
  nodes (Simple t) = 1
  nodes (Fixed s n) = 1 + n * nodes s
  nodes (Var s cap) = 1 + cap * nodes s
  nodes (Struct fs o) = 1 + nodes_of fs
  nodes (Union fs o) = 1 + nodes_of fs

  pub nodes_of : Flds → ℕ
  nodes_of End = 0
  nodes_of (Pad n fs) = nodes_of fs
  nodes_of (Field name s fs) = nodes s + nodes_of fs

-- A schema is formed by the rules, and its fields and variants have names. As limits, its types
-- nest at most 32 deep, and a value has at most 2^20 nodes.
abbrev pub IsSchema : Sch → Type 0
IsSchema s = IsFormed s × (nesting s ≤ 32) × (nodes s ≤ 2 ^ 20) × HasNames s
