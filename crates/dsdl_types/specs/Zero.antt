-- The zero of a schema: what no bits read as.
use Rattle.std.specs.Prelude.{false, pos}
use Rattle.dsdl_types.specs.Schemas.{Prim, Sch, Flds, PBool, PUint, PInt, PFloat, Simple, Fixed}
use Rattle.dsdl_types.specs.Schemas.{Var, Struct, Union, End, Pad, Field}
use Rattle.dsdl_types.specs.Values.{Val, Vals, Truth, Num, Raw, Items, Parts, Tagged, Empty, More}
use Rattle.dsdl_types.specs.Values.{same_items}

abbrev pub zero_simple : Prim → Val
zero_simple PBool = Truth false
zero_simple (PUint w c) = Num (pos 0)
zero_simple (PInt w) = Num (pos 0)
zero_simple (PFloat w c) = Raw 0

-- false, 0, zeros of a fixed array, no items of a variable one, the zero of each field, and of a
-- union its variant 0 with that variant's zero
abbrev mutual
  pub zero_of : Sch → Val
  zero_of (Simple t) = zero_simple t
  zero_of (Fixed s n) = Items (same_items n (zero_of s))
  zero_of (Var s cap) = Items Empty
  zero_of (Struct fs o) = Parts (zero_fields fs)
  zero_of (Union fs o) = Tagged 0 (zero_variant fs)

  pub zero_fields : Flds → Vals
  zero_fields End = Empty
  zero_fields (Pad n fs) = zero_fields fs
  zero_fields (Field name s fs) = More (zero_of s) (zero_fields fs)

  -- the zero of the first variant
  pub zero_variant : Flds → Val
  zero_variant End = Items Empty
  zero_variant (Pad n fs) = zero_variant fs
  zero_variant (Field name s fs) = zero_of s
