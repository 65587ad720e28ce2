-- Which values a schema has.
use Rattle.std.specs.Prelude.{◌≡◌, ℕ, zero, suc, ◌^◌, ◌≤◌, ◌<◌, ℤ, pos, negsuc}
use Rattle.dsdl_types.specs.Schemas.{Prim, Sch, Flds, PBool, PUint, PInt, PFloat, Simple, Fixed}
use Rattle.dsdl_types.specs.Schemas.{Var, Struct, Union, End, Pad, Field}
use Rattle.dsdl_types.specs.Values.{Val, Vals, Truth, Num, Raw, Items, Parts, Tagged, Empty, More}
use Rattle.dsdl_types.specs.Values.{count}

-- a whole number from -2^63 to 2^64 - 1
abbrev pub IsNumber : ℤ → Type 0
IsNumber (pos n) = n < 2 ^ 64
IsNumber (negsuc n) = n < 2 ^ 63

-- A bool has the truth values. An integer type has the whole numbers from -2^63 to 2^64 - 1, those
-- that its width doesn't hold among them (they are cast when they are written). A float type has
-- the raw bits of its width.
abbrev pub FitsSimple : Prim → Val → Type 0
FitsSimple PBool (Truth b) = Unit {0}
FitsSimple (PUint w c) (Num z) = IsNumber z
FitsSimple (PInt w) (Num z) = IsNumber z
FitsSimple (PFloat w c) (Raw n) = n < 2 ^ w
FitsSimple _ _ = ⊥

abbrev pub AllOf : (Val → Type 0) → Vals → Type 0
AllOf P Empty = Unit {0}
AllOf P (More v vs) = P v × AllOf P vs

-- the items of an array, of which the number and each one are as said
abbrev pub AreItems : (ℕ → Type 0) → (Val → Type 0) → Val → Type 0
AreItems N P (Items vs) = N (count vs) × AllOf P vs
AreItems N P _ = ⊥

abbrev pub AreParts : (Vals → Type 0) → Val → Type 0
AreParts P (Parts vs) = P vs
AreParts P _ = ⊥

abbrev pub IsTagged : (ℕ → Val → Type 0) → Val → Type 0
IsTagged P (Tagged t v) = P t v
IsTagged P _ = ⊥

abbrev pub IsFirst : (Val → Type 0) → (Vals → Type 0) → Vals → Type 0
IsFirst P Q Empty = ⊥
IsFirst P Q (More v vs) = P v × Q vs

abbrev pub IsEmpty : Vals → Type 0
IsEmpty Empty = Unit {0}
IsEmpty (More v vs) = ⊥

-- A fixed array has exactly its number of items, a variable one at most its capacity. A structure
-- has a value for each field that isn't padding. A union has a tag below its number of variants,
-- and a value of that variant.
abbrev mutual
  pub Fits : Sch → Val → Type 0
  Fits (Simple t) v = FitsSimple t v
  Fits (Fixed s n) v = AreItems (λ k. k ≡ n) (λ x. Fits s x) v
  Fits (Var s cap) v = AreItems (λ k. k ≤ cap) (λ x. Fits s x) v
  Fits (Struct fs o) v = AreParts (λ vs. FitFields fs vs) v
  Fits (Union fs o) v = IsTagged (λ t x. FitsVariant fs t x) v

  pub FitFields : Flds → Vals → Type 0
  FitFields End vs = IsEmpty vs
  FitFields (Pad n fs) vs = FitFields fs vs
  FitFields (Field name s fs) vs = IsFirst (λ v. Fits s v) (λ ws. FitFields fs ws) vs

  -- a value of variant number k of these, counted from 0
  pub FitsVariant : Flds → ℕ → Val → Type 0
  FitsVariant End k v = ⊥
  FitsVariant (Pad n fs) k v = FitsVariant fs k v
  FitsVariant (Field name s fs) zero v = Fits s v
  FitsVariant (Field name s fs) (suc k) v = FitsVariant fs k v
