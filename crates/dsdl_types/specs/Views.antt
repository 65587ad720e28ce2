-- The schemas and values of the code as those of the definitions.
use Rattle.std.specs.Prelude.{ℕ, Bool, true, false, List, [], ◌∷◌, map}
use Rattle.dsdl_types.specs.Schemas.{Prim, PBool, PUint, PInt, PFloat, Sch, Flds, Outline, Simple}
use Rattle.dsdl_types.specs.Schemas.{End, Pad}
use Rattle.dsdl_types.specs.Schemas as S
use Rattle.dsdl_types.specs.Values.{Val, Vals, Empty, More, Truth, Num, Raw, Items, Parts, Tagged}
use Rattle.dsdl_types.specs.declared.schema.Cast.{Cast}
use Rattle.dsdl_types.specs.declared.schema.Cast.TheVariants.{Saturated, Truncated}
use Rattle.dsdl_types.specs.declared.schema.Schema.{Schema}
use Rattle.dsdl_types.specs.declared.schema.Body.{Body, Body-F}
use Rattle.dsdl_types.specs.declared.schema.Field.{Field, Field-F, out-Field}
use Rattle.dsdl_types.specs.declared.schema.Schema.TheFolds.{fold-Schema, fold-Body}
use Rattle.dsdl_types.specs.declared.schema.Schema.TheOpen as open_schema
use Rattle.dsdl_types.specs.Reading.{Why}
use Rattle.dsdl_types.specs.Reading as R
use Rattle.dsdl_types.specs.declared.read_why.ReadWhy.{ReadWhy}
use Rattle.dsdl_types.specs.declared.read_why.ReadWhy.TheVariants as W
use Rattle.dsdl_types.specs.declared.value.Value.{Value}
use Rattle.dsdl_types.specs.declared.value.Value.TheFolds.{fold-Value}
use Rattle.dsdl_types.specs.declared.value.Value.TheOpen as open_value

-- What the schema of a field stands for: a type, or so many bits of padding.
pub data Kind : Type 0 where
  Typed : Sch → Kind
  Padding : ℕ → Kind

abbrev pub is_padding : Kind → Bool
is_padding (Typed s) = false
is_padding (Padding n) = true

-- Padding alone is no type. It is seen as an integer of no bits, which the rules don't allow.
abbrev pub type_of : Kind → Sch
type_of (Typed s) = s
type_of (Padding n) = Simple (PUint 0 false)

-- a field with its name in front of others
abbrev pub with_field : List ℕ → Kind → Flds → Flds
with_field name (Typed s) fs = S.Field name s fs
with_field name (Padding n) fs = Pad n fs

-- fields in order
abbrev pub in_order : List (List ℕ × Kind) → Flds
in_order [] = End
in_order (f ∷ fs) = with_field f.0 f.1 (in_order fs)

abbrev pub is_saturated : Cast → Bool
is_saturated Saturated = true
is_saturated Truncated = false

-- One layer of a schema, with what its parts stand for in their places: an item or a field's schema
-- as its kind, a body as its fields and outline, a field with its name.
abbrev pub at_schema : open_schema.Schema-F Kind (Flds × Outline) (List ℕ × Kind) → Kind
at_schema open_schema.Bool = Typed (Simple PBool)
at_schema (open_schema.Uint bits cast) = Typed (Simple (PUint bits (is_saturated cast)))
at_schema (open_schema.Int bits) = Typed (Simple (PInt bits))
at_schema (open_schema.Float bits cast) = Typed (Simple (PFloat bits (is_saturated cast)))
at_schema (open_schema.Void bits) = Padding bits
at_schema (open_schema.Fixed item len) = Typed (S.Fixed (type_of item) len)
at_schema (open_schema.Var item cap) = Typed (S.Var (type_of item) cap)
at_schema (open_schema.Struct body) = Typed (S.Struct body.0 body.1)
at_schema (open_schema.Union body) = Typed (S.Union body.0 body.1)

abbrev pub at_body : Body-F Kind (Flds × Outline) (List ℕ × Kind) → Flds × Outline
at_body b = (in_order b.fields, record { extent = b.extent; sealed = b.sealed })

abbrev pub at_field : Field-F Kind (Flds × Outline) (List ℕ × Kind) → List ℕ × Kind
at_field f = (f.name, f.schema)

-- what a schema of the code stands for
abbrev pub kind_of : Schema → Kind
kind_of = fold-Schema Kind (Flds × Outline) (List ℕ × Kind) at_schema at_body at_field

-- the fields, the extent and the sealing of a composite
abbrev pub body_of : Body → Flds × Outline
body_of = fold-Body Kind (Flds × Outline) (List ℕ × Kind) at_schema at_body at_field

-- a schema of the code as one of the definitions
abbrev pub sch : Schema → Sch
sch s = type_of (kind_of s)

-- a field: its name, and what its schema stands for
abbrev pub named : Field → List ℕ × Kind
named f = ((out-Field f).name, kind_of (out-Field f).schema)

-- fields of the code, in order
abbrev pub flds : List Field → Flds
flds fields = in_order (map named fields)

abbrev pub in_row : List Val → Vals
in_row [] = Empty
in_row (v ∷ vs) = More v (in_row vs)

-- one layer of a value, with its parts as values of the definitions
abbrev pub at_value : open_value.Value-F Val → Val
at_value (open_value.Bool truth) = Truth truth
at_value (open_value.Num number) = Num number
at_value (open_value.Bits bits) = Raw bits
at_value (open_value.Items items) = Items (in_row items)
at_value (open_value.Struct fields) = Parts (in_row fields)
at_value (open_value.Union tag value) = Tagged tag value

-- a value of the code as one of the definitions
abbrev pub val : Value → Val
val = fold-Value Val at_value

-- values of the code, in order
abbrev pub vals : List Value → Vals
vals values = in_row (map val values)

-- a cause of the code as one of the definitions
abbrev pub why_of : ReadWhy → Why
why_of (W.BadTag n) = R.BadTag n
why_of (W.BadLength n) = R.BadLength n
why_of (W.BadDelimiter n) = R.BadDelimiter n
