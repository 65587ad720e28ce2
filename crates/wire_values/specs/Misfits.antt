-- The first part of a value, in writing order, that isn't one of its schema.
use Rattle.std.specs.Prelude.{ℕ, zero, suc, ◌^◌, ◌==◌, ◌&&◌, nat_lt, nat_le, Bool, true, false}
use Rattle.std.specs.Prelude.{List, [], ◌∷◌, Option, Some, None, ℤ, pos, negsuc}
use Rattle.dsdl_types.specs.Schemas.{Prim, Sch, Flds, PBool, PUint, PInt, PFloat, Simple, Fixed}
use Rattle.dsdl_types.specs.Schemas.{Var, Struct, Union, End, Pad, Field, variants}
use Rattle.dsdl_types.specs.Values.{Val, Vals, Truth, Num, Raw, Items, Parts, Tagged, Empty, More}
use Rattle.dsdl_types.specs.Values.{count, first, others}
use Rattle.dsdl_types.specs.Reading.{Step, Name, Index}

-- whether a whole number is from -2^63 to 2^64 - 1
abbrev pub is_number : ℤ → Bool
is_number (pos n) = nat_lt n (2 ^ 64)
is_number (negsuc n) = nat_lt n (2 ^ 63)

-- whether a value is one of a primitive
abbrev pub is_simple : Prim → Val → Bool
is_simple PBool (Truth b) = true
is_simple (PUint w c) (Num z) = is_number z
is_simple (PInt w) (Num z) = is_number z
is_simple (PFloat w c) (Raw n) = nat_lt n (2 ^ w)
is_simple _ _ = false

-- the whole, unless a test holds
abbrev pub unless : Bool → Option (List Step) → Option (List Step)
unless false found = Some []
unless true found = found

-- what was found in a part, as a part of the whole
abbrev pub below : Step → Option (List Step) → Option (List Step)
below s None = None
below s (Some steps) = Some (s ∷ steps)

-- the first of two that is there
abbrev pub either : Option (List Step) → Option (List Step) → Option (List Step)
either None other = other
either (Some steps) other = Some steps

-- the first item that doesn't fit, of which the next has the number i
abbrev pub first_misfit : (Val → Option (List Step)) → ℕ → Vals → Option (List Step)
first_misfit f i Empty = None
first_misfit f i (More v vs) = either (below (Index i) (f v)) (first_misfit f (suc i) vs)

-- of an array with `least` to `most` items
abbrev pub in_items : ℕ → ℕ → (Val → Option (List Step)) → Val → Option (List Step)
in_items least most f (Items vs) = unless (nat_le least (count vs) && nat_le (count vs) most) (first_misfit f 0 vs)
in_items least most f _ = Some []

-- of a structure with n fields that aren't padding
abbrev pub in_parts : ℕ → (Vals → Option (List Step)) → Val → Option (List Step)
in_parts n f (Parts vs) = unless (count vs == n) (f vs)
in_parts n f _ = Some []

abbrev pub in_variant : (ℕ → Val → Option (List Step)) → Val → Option (List Step)
in_variant f (Tagged t v) = f t v
in_variant f _ = Some []

-- The path to the first part that doesn't fit, or nothing. A value of another kind, and an array or
-- a structure with another number of items or fields, doesn't fit as a whole; nor does a union
-- whose tag is that of no variant.
abbrev mutual
  pub misfit : Sch → Val → Option (List Step)
  misfit (Simple t) v = unless (is_simple t v) None
  misfit (Fixed s n) v = in_items n n (λ x. misfit s x) v
  misfit (Var s cap) v = in_items 0 cap (λ x. misfit s x) v
  misfit (Struct fs o) v = in_parts (variants fs) (λ vs. misfit_fields fs vs) v
  misfit (Union fs o) v = in_variant (λ t x. misfit_variant fs t x) v

  pub misfit_fields : Flds → Vals → Option (List Step)
  misfit_fields End vs = None
  misfit_fields (Pad n fs) vs = misfit_fields fs vs
  misfit_fields (Field name s fs) vs = either (below (Name name) (misfit s (first vs))) (misfit_fields fs (others vs))

  -- of a value of variant number k of these
  pub misfit_variant : Flds → ℕ → Val → Option (List Step)
  misfit_variant End k v = Some []
  misfit_variant (Pad n fs) k v = misfit_variant fs k v
  misfit_variant (Field name s fs) zero v = below (Name name) (misfit s v)
  misfit_variant (Field name s fs) (suc k) v = misfit_variant fs k v
