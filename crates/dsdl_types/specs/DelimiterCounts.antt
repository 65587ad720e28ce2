-- Bytes in which no delimiter header counts more than the extent of its part.
use Rattle.std.specs.Prelude.{ℕ, zero, suc, ◌+◌, ◌*◌, ◌-◌, ◌≤◌, Bool, true, false, List, length}
use Rattle.std.specs.Prelude.{take, drop}
use Rattle.cy_bits.specs.Bits.{number, gap}
use Rattle.dsdl_types.specs.Schemas.{Prim, Sch, Flds, Simple, Fixed, Var, Struct, Union, End, Pad}
use Rattle.dsdl_types.specs.Schemas.{Field, is_aligned, is_delimited, length_field_bits, tag_bits}
use Rattle.dsdl_types.specs.Schemas.{variants, extent_of}
use Rattle.dsdl_types.specs.Values.{Val}
use Rattle.dsdl_types.specs.Reading.{Read, Got, Bad, part, aligned}

-- where the bits were read, of the place and the bits behind
abbrev pub on_got : {A : Type 0} → Read A → (ℕ → List Bool → Type 0) → Type 0
on_got (Got a p x) P = P p x
on_got (Bad path why) P = Unit {0}

-- a part behind its delimiter header, if it has one: the count is within the extent, and within the
-- window, where that is whole, the same holds of its own parts
abbrev pub count_fits : Bool → ℕ → (ℕ → List Bool → Type 0) → ℕ → List Bool → Type 0
count_fits false e P p x = P p x
count_fits true e P p x =
    let c = number (take 32 x) in
    (8 * c ≤ e) × (8 * c ≤ length (drop 32 x) → P 0 (take (8 * c) (drop 32 x)))

abbrev pub at_aligned : Bool → (ℕ → List Bool → Type 0) → ℕ → List Bool → Type 0
at_aligned false P p x = P p x
at_aligned true P p x = P (p + gap p) (drop (gap p) x)

abbrev pub row_fits : (ℕ → List Bool → Read Val) → (ℕ → List Bool → Type 0) → ℕ → ℕ → List Bool
    → Type 0
row_fits f P zero p x = Unit {0}
row_fits f P (suc n) p x = P p x × on_got (f p x) (λ q y. row_fits f P n q y)

-- Reading from the place p meets no delimiter header that counts more than its part's extent, up to
-- the end or the first refusal.
abbrev mutual
  pub CountsFit : Sch → ℕ → List Bool → Type 0
  CountsFit (Simple t) p x = Unit {0}
  CountsFit (Fixed s n) p x = row_fits (part s) (count_fits (is_delimited s) (extent_of s) (λ q y. CountsFit s q y)) n p x
  CountsFit (Var s c) p x =
      let n = number (take (length_field_bits c) x) in
      n ≤ c → row_fits (part s) (count_fits (is_delimited s) (extent_of s) (λ q y. CountsFit s q y)) n (p + length_field_bits c) (drop (length_field_bits c) x)
  CountsFit (Struct fs o) p x = FieldsFit fs p x
  CountsFit (Union fs o) p x =
      let w = tag_bits (variants fs) in
      VariantFits fs (number (take w x)) (p + w) (drop w x)

  pub FieldsFit : Flds → ℕ → List Bool → Type 0
  FieldsFit End p x = Unit {0}
  FieldsFit (Pad n fs) p x = FieldsFit fs (p + n) (drop n x)
  FieldsFit (Field name s fs) p x =
      at_aligned (is_aligned s) (count_fits (is_delimited s) (extent_of s) (λ q y. CountsFit s q y)) p x
      × on_got (aligned (is_aligned s) (part s) p x) (λ q y. FieldsFit fs q y)

  pub VariantFits : Flds → ℕ → ℕ → List Bool → Type 0
  VariantFits End k p x = Unit {0}
  VariantFits (Pad n fs) k p x = VariantFits fs k p x
  VariantFits (Field name s fs) zero p x = count_fits (is_delimited s) (extent_of s) (λ q y. CountsFit s q y) p x
  VariantFits (Field name s fs) (suc k) p x = VariantFits fs k p x
