-- Of each schema the lengths, and the places of its fields, are finitely many.
use Rattle.std.proofs.Common.{◌≡◌, ℕ, zero, suc, ◌+◌, ◌*◌, ◌/◌, ◌≤◌, Bool, true, false, arith}
use Rattle.bit_length.specs.Lengths.{Numbers}
use Rattle.dsdl_types.specs.Greatest.{up, from_lead}
use Rattle.dsdl_types.specs.Lengths.{AsPart, InRow, Length, EndsAt, VariantLength, Size, StandsAt, At}
use Rattle.dsdl_types.specs.Schemas.{Sch, Flds, Simple, Fixed, Var, Struct, Union, End, Pad, Field, is_aligned, is_delimited, extent_of, length_field_bits, tag_bits, width, variants}
use Rattle.layout_text.proofs.Finite.{Finite, at_most, chosen, in_either, nothing, only, same_set}

as_part : (delimited : Bool) (extent : ℕ) (P : Numbers) → Finite P → Finite (AsPart delimited extent P)
as_part false extent P f = f
as_part true extent P f =
    same_set _ (AsPart true extent P) (λ n. (λ (c, l, e). (c, omega arith, e), λ (c, l, e). (c, omega arith, e)))
    (chosen (λ c. c ≤ extent / 8) (λ c n. n ≡ 32 + 8 * c) (at_most (extent / 8)) (λ c. only (32 + 8 * c)))

in_row : (P : Numbers) → Finite P → (k : ℕ) → Finite (InRow P k)
in_row P f zero = only 0
in_row P f (suc k) =
    same_set _ (InRow P (suc k)) (λ n. (λ (a, p, (b, q, e)). (a, b, p, q, e), λ (a, b, p, q, e). (a, p, (b, q, e))))
    (chosen P (λ a n. (b : ℕ) × InRow P k b × (n ≡ a + b)) f (λ a. chosen (InRow P k) (λ b n. n ≡ a + b) (in_row P f k) (λ b. only (a + b))))

-- at most so many in a row, behind their count
up_to : (P : Numbers) → Finite P → (field capacity : ℕ) → Finite (λ n. (k : ℕ) × (m : ℕ) × (k ≤ capacity) × InRow P k m × (n ≡ field + m))
up_to P f field capacity =
    same_set _ (λ n. (k : ℕ) × (m : ℕ) × (k ≤ capacity) × InRow P k m × (n ≡ field + m))
    (λ n. (λ (k, l, (m, q, e)). (k, m, l, q, e), λ (k, m, l, q, e). (k, l, (m, q, e))))
    (chosen (λ k. k ≤ capacity) (λ k n. (m : ℕ) × InRow P k m × (n ≡ field + m)) (at_most capacity)
    (λ k. chosen (InRow P k) (λ m n. n ≡ field + m) (in_row P f k) (λ m. only (field + m))))

mutual
  pub lengths_of : (s : Sch) → Finite (Length s)
  lengths_of (Simple t) = only (width t)
  lengths_of (Fixed s k) = in_row _ (as_part (is_delimited s) (extent_of s) (Length s) (lengths_of s)) k
  lengths_of (Var s cap) = up_to _ (as_part (is_delimited s) (extent_of s) (Length s) (lengths_of s)) (length_field_bits cap) cap
  lengths_of (Struct fs o) = chosen (EndsAt fs 0) (λ m n. n ≡ up m) (ends_of fs 0) (λ m. only (up m))
  lengths_of (Union fs o) =
      chosen (VariantLength fs) (λ m n. n ≡ up (tag_bits (variants fs) + m)) (variants_of fs) (λ m. only (up (tag_bits (variants fs) + m)))

  ends_of : (fs : Flds) (p : ℕ) → Finite (EndsAt fs p)
  ends_of End p = only p
  ends_of (Pad k fs) p = ends_of fs (p + k)
  ends_of (Field name s fs) p =
      chosen (Size s) (λ m. EndsAt fs (from_lead (is_aligned s) p + m)) (as_part (is_delimited s) (extent_of s) (Length s) (lengths_of s)) (λ m. ends_of fs (from_lead (is_aligned s) p + m))

  variants_of : (fs : Flds) → Finite (VariantLength fs)
  variants_of End = nothing
  variants_of (Pad k fs) = variants_of fs
  variants_of (Field name s fs) =
      in_either (Size s) (VariantLength fs) (as_part (is_delimited s) (extent_of s) (Length s) (lengths_of s)) (variants_of fs)

pub sizes_of : (s : Sch) → Finite (Size s)
sizes_of s = as_part (is_delimited s) (extent_of s) (Length s) (lengths_of s)

stands : (fs : Flds) (k p : ℕ) → Finite (StandsAt fs k p)
stands End k p = nothing
stands (Pad n fs) k p = stands fs k (p + n)
stands (Field name s fs) zero p = only (from_lead (is_aligned s) p)
stands (Field name s fs) (suc k) p =
    chosen (Size s) (λ m. StandsAt fs k (from_lead (is_aligned s) p + m)) (sizes_of s) (λ m. stands fs k (from_lead (is_aligned s) p + m))

pub places_of : (s : Sch) (k : ℕ) → Finite (At s k)
places_of (Simple t) k = nothing
places_of (Fixed s n) k = nothing
places_of (Var s cap) k = nothing
places_of (Struct fs o) k = stands fs k 0
places_of (Union fs o) k = only (tag_bits (variants fs))
