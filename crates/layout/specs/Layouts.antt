-- What the layout of a composite says (Cyphal Specification, section 3.7): of each field or variant
-- where it can stand and which lengths it can have, and which lengths the whole can have.
use Rattle.std.specs.Prelude.{◌≡◌, ℕ, suc, ◌↔◌, Bool, true, false, List, [], ◌∷◌, Option, Some}
use Rattle.std.specs.Prelude.{None}
use Rattle.bit_length.specs.Lengths.{Has}
use Rattle.dsdl_types.specs.Schemas.{Prim, PBool, PUint, PInt, PFloat, Sch, Flds, Simple, Fixed}
use Rattle.dsdl_types.specs.Schemas.{Var, Struct, Union, End, Pad, Field}
use Rattle.dsdl_types.specs.Lengths.{Length, Size, At}
use Rattle.dsdl_types.specs.declared.schema.Cast.{Cast}
use Rattle.dsdl_types.specs.declared.schema.Cast.TheVariants.{Saturated, Truncated}
use Rattle.layout.specs.declared.row.Row.{Row}

-- the fields that aren't padding, each with its name and type
abbrev pub typed_fields : Flds → List (List ℕ × Sch)
typed_fields End = []
typed_fields (Pad n fs) = typed_fields fs
typed_fields (Field name s fs) = (name, s) ∷ typed_fields fs

-- the fields of a structure or the variants of a union
abbrev pub fields_of : Sch → List (List ℕ × Sch)
fields_of (Struct fs o) = typed_fields fs
fields_of (Union fs o) = typed_fields fs
fields_of _ = []

abbrev pub cast_from : Bool → Cast
cast_from true = Saturated
cast_from false = Truncated

-- The cast of an unsigned integer or a float, or of the items of an array of such. A truth value, a
-- signed integer and a composite have none.
abbrev pub cast_of : Sch → Option Cast
cast_of (Simple PBool) = None
cast_of (Simple (PUint w c)) = Some (cast_from c)
cast_of (Simple (PInt w)) = None
cast_of (Simple (PFloat w c)) = Some (cast_from c)
cast_of (Fixed s n) = cast_of s
cast_of (Var s n) = cast_of s
cast_of (Struct fs o) = None
cast_of (Union fs o) = None

-- The row of field k of a composite, counted without padding: its name, exactly the places where it
-- can stand, exactly the lengths that it can have, and its cast.
pub record IsRow (s : Sch) (k : ℕ) (field : List ℕ × Sch) (row : Row) : Type 0 where
  pub name : row.name ≡ field.0
  pub offsets : (n : ℕ) → Has row.offsets n ↔ At s k n
  pub lengths : (n : ℕ) → Has row.lengths n ↔ Size field.1 n
  pub cast : row.cast ≡ cast_of field.1

-- a row for each field, from field k on
abbrev pub AreRows : Sch → ℕ → List (List ℕ × Sch) → List Row → Type 0
AreRows s k [] [] = Unit {0}
AreRows s k [] (r ∷ rs) = ⊥
AreRows s k (f ∷ fs) [] = ⊥
AreRows s k (f ∷ fs) (r ∷ rs) = IsRow s k f r × AreRows s (suc k) fs rs

-- The rows are those of the fields in order, and the lengths exactly those of the composite by
-- itself, without a delimiter header.
pub record IsLayout (s : Sch) (rows : List Row) (lengths : List ℕ) : Type 0 where
  pub each : AreRows s 0 (fields_of s) rows
  pub whole : (n : ℕ) → Has lengths n ↔ Length s n
