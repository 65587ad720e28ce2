-- Which lengths in bits the serialized forms of a schema have, and where a field can stand.
use Rattle.std.specs.Prelude.{◌≡◌, ℕ, zero, suc, ◌+◌, ◌*◌, ◌-◌, ◌≤◌, ◌⊎◌, Bool, true, false}
use Rattle.dsdl_types.specs.Schemas.{Sch, Flds, Simple, Fixed, Var, Struct, Union, End, Pad, Field}
use Rattle.dsdl_types.specs.Schemas.{is_aligned, is_delimited, extent_of, length_field_bits}
use Rattle.dsdl_types.specs.Schemas.{tag_bits, width, variants}
use Rattle.dsdl_types.specs.Greatest.{up, from_lead}

-- As a part: of a delimited composite its delimiter header and any whole bytes up to its extent,
-- since another version of it may stand there.
abbrev pub AsPart : Bool → ℕ → (ℕ → Type 0) → ℕ → Type 0
AsPart false extent P n = P n
AsPart true extent P n = (c : ℕ) × (8 * c ≤ extent) × (n ≡ 32 + 8 * c)

-- so many in a row, each of any of the lengths
abbrev pub InRow : (ℕ → Type 0) → ℕ → ℕ → Type 0
InRow P zero n = n ≡ 0
InRow P (suc k) n = (a : ℕ) × (b : ℕ) × P a × InRow P k b × (n ≡ a + b)

-- n is a length of the type's own bits
abbrev mutual
  pub Length : Sch → ℕ → Type 0
  Length (Simple t) n = n ≡ width t
  Length (Fixed s k) n = InRow (AsPart (is_delimited s) (extent_of s) (λ m. Length s m)) k n
  Length (Var s cap) n = (k : ℕ) × (m : ℕ) × (k ≤ cap) × InRow (AsPart (is_delimited s) (extent_of s) (λ m. Length s m)) k m × (n ≡ length_field_bits cap + m)
  Length (Struct fs o) n = (m : ℕ) × EndsAt fs 0 m × (n ≡ up m)
  Length (Union fs o) n = (m : ℕ) × VariantLength fs m × (n ≡ up (tag_bits (variants fs) + m))

  -- fields that begin at the place p can end at n
  pub EndsAt : Flds → ℕ → ℕ → Type 0
  EndsAt End p n = n ≡ p
  EndsAt (Pad k fs) p n = EndsAt fs (p + k) n
  EndsAt (Field name s fs) p n = (m : ℕ) × AsPart (is_delimited s) (extent_of s) (λ m. Length s m) m × EndsAt fs (from_lead (is_aligned s) p + m) n

  pub VariantLength : Flds → ℕ → Type 0
  VariantLength End n = ⊥
  VariantLength (Pad k fs) n = VariantLength fs n
  VariantLength (Field name s fs) n = AsPart (is_delimited s) (extent_of s) (λ m. Length s m) n ⊎ VariantLength fs n

-- n is a length of the type as a part of another
abbrev pub Size : Sch → ℕ → Type 0
Size s n = AsPart (is_delimited s) (extent_of s) (λ m. Length s m) n

-- field k of these, counted without padding, can stand at o, where they begin at p
abbrev pub StandsAt : Flds → ℕ → ℕ → ℕ → Type 0
StandsAt End k p o = ⊥
StandsAt (Pad n fs) k p o = StandsAt fs k (p + n) o
StandsAt (Field name s fs) zero p o = o ≡ from_lead (is_aligned s) p
StandsAt (Field name s fs) (suc k) p o = (m : ℕ) × Size s m × StandsAt fs k (from_lead (is_aligned s) p + m) o

-- Field k of a composite can stand at o. In a union each variant stands behind the tag.
abbrev pub At : Sch → ℕ → ℕ → Type 0
At (Struct fs outline) k o = StandsAt fs k 0 o
At (Union fs outline) k o = o ≡ tag_bits (variants fs)
At _ k o = ⊥
