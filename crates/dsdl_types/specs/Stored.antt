-- Values that a struct of the standard types holds: as those of a schema, with each number in the
-- range of the least integer of 8, 16, 32 or 64 bits that holds its type.
use Rattle.std.specs.Prelude.{◌≡◌, ℕ, zero, suc, ◌-◌, ◌^◌, ◌≤◌, ◌<◌, nat_lt, if◌then◌else◌, ℤ, pos}
use Rattle.std.specs.Prelude.{negsuc}
use Rattle.dsdl_types.specs.Schemas.{Prim, Sch, Flds, PBool, PUint, PInt, PFloat, Simple, Fixed}
use Rattle.dsdl_types.specs.Schemas.{Var, Struct, Union, End, Pad, Field}
use Rattle.dsdl_types.specs.Values.{Val, Vals, Truth, Num, Raw}
use Rattle.dsdl_types.specs.Fits.{AreItems, AreParts, IsTagged, IsFirst, IsEmpty}

-- the bits of the least integer that holds a type of w bits, up to 64
abbrev pub stored_width : ℕ → ℕ
stored_width w = if nat_lt w 9 then 8 else if nat_lt w 17 then 16 else if nat_lt w 33 then 32 else 64

-- from 0 to 2^n - 1
abbrev pub IsUnsigned : ℕ → ℤ → Type 0
IsUnsigned n (pos k) = k < 2 ^ n
IsUnsigned n (negsuc k) = ⊥

-- from -2^(n - 1) to 2^(n - 1) - 1; `negsuc k` is -(k + 1)
abbrev pub IsSigned : ℕ → ℤ → Type 0
IsSigned n (pos k) = k < 2 ^ (n - 1)
IsSigned n (negsuc k) = k < 2 ^ (n - 1)

abbrev pub IsStoredSimple : Prim → Val → Type 0
IsStoredSimple PBool (Truth b) = Unit {0}
IsStoredSimple (PUint w c) (Num z) = IsUnsigned (stored_width w) z
IsStoredSimple (PInt w) (Num z) = IsSigned (stored_width w) z
IsStoredSimple (PFloat w c) (Raw n) = n < 2 ^ w
IsStoredSimple _ _ = ⊥

-- As a value fits a schema, with these ranges of numbers.
abbrev mutual
  pub IsStored : Sch → Val → Type 0
  IsStored (Simple t) v = IsStoredSimple t v
  IsStored (Fixed s n) v = AreItems (λ k. k ≡ n) (λ x. IsStored s x) v
  IsStored (Var s cap) v = AreItems (λ k. k ≤ cap) (λ x. IsStored s x) v
  IsStored (Struct fs o) v = AreParts (λ vs. AreStored fs vs) v
  IsStored (Union fs o) v = IsTagged (λ t x. IsStoredVariant fs t x) v

  pub AreStored : Flds → Vals → Type 0
  AreStored End vs = IsEmpty vs
  AreStored (Pad n fs) vs = AreStored fs vs
  AreStored (Field name s fs) vs = IsFirst (λ v. IsStored s v) (λ ws. AreStored fs ws) vs

  -- a value of variant number k of these, counted from 0
  pub IsStoredVariant : Flds → ℕ → Val → Type 0
  IsStoredVariant End k v = ⊥
  IsStoredVariant (Pad n fs) k v = IsStoredVariant fs k v
  IsStoredVariant (Field name s fs) zero v = IsStored s v
  IsStoredVariant (Field name s fs) (suc k) v = IsStoredVariant fs k v
