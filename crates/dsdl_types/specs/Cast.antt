-- Values with each number brought into the range of its type, as it is when it is written.
use Rattle.std.specs.Prelude.{ℕ, zero, suc, ◌-◌, ◌^◌, ◌%◌, min, Bool, true, false, ℤ, pos, negsuc}
use Rattle.dsdl_types.specs.Schemas.{Prim, Sch, Flds, PBool, PUint, PInt, PFloat, Simple, Fixed}
use Rattle.dsdl_types.specs.Schemas.{Var, Struct, Union, End, Pad, Field}
use Rattle.dsdl_types.specs.Values.{Val, Vals, Num, Items, Parts, Tagged, Empty, More, items_of}
use Rattle.dsdl_types.specs.Values.{parts_of, tag_of, inner_of, first, others, on_items}

-- An unsigned number of w bits: saturated (true) the nearest end of the range from 0 to 2^w - 1,
-- truncated (false) the low bits in two's complement. `negsuc n` is -(n + 1).
abbrev pub cast_uint : ℕ → Bool → ℤ → ℕ
cast_uint w true (pos n) = min n (2 ^ w - 1)
cast_uint w true (negsuc n) = 0
cast_uint w false (pos n) = n % 2 ^ w
cast_uint w false (negsuc n) = 2 ^ w - 1 - n % 2 ^ w

-- a signed number of w bits: the nearest end of the range from -2^(w - 1) to 2^(w - 1) - 1
abbrev pub cast_int : ℕ → ℤ → ℤ
cast_int w (pos n) = pos (min n (2 ^ (w - 1) - 1))
cast_int w (negsuc n) = negsuc (min n (2 ^ (w - 1) - 1))

abbrev pub on_num : (ℤ → ℤ) → Val → Val
on_num f (Num z) = Num (f z)
on_num f v = v

abbrev pub cast_simple : Prim → Val → Val
cast_simple PBool v = v
cast_simple (PUint w c) v = on_num (λ z. pos (cast_uint w c z)) v
cast_simple (PInt w) v = on_num (cast_int w) v
cast_simple (PFloat w c) v = v

-- each number in the range of its type
abbrev mutual
  pub cast : Sch → Val → Val
  cast (Simple t) v = cast_simple t v
  cast (Fixed s n) v = Items (on_items (λ x. cast s x) (items_of v))
  cast (Var s cap) v = Items (on_items (λ x. cast s x) (items_of v))
  cast (Struct fs o) v = Parts (cast_fields fs (parts_of v))
  cast (Union fs o) v = Tagged (tag_of v) (cast_variant fs (tag_of v) (inner_of v))

  pub cast_fields : Flds → Vals → Vals
  cast_fields End vs = Empty
  cast_fields (Pad n fs) vs = cast_fields fs vs
  cast_fields (Field name s fs) vs = More (cast s (first vs)) (cast_fields fs (others vs))

  pub cast_variant : Flds → ℕ → Val → Val
  cast_variant End k v = v
  cast_variant (Pad n fs) k v = cast_variant fs k v
  cast_variant (Field name s fs) zero v = cast s v
  cast_variant (Field name s fs) (suc k) v = cast_variant fs k v
