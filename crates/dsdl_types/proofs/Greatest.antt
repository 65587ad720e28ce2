-- No length is above `longest`
use Rattle.std.proofs.Common.{◌≡◌, ℕ, zero, suc, ◌+◌, ◌*◌, ◌-◌, ◌≤◌, Bool, true, false, arith, inl, inr}
use Rattle.std.proofs.Math.Nat.{mul-le-mul_right}
use Rattle.dsdl_types.specs.Schemas.{Prim, Sch, Flds, Simple, Fixed, Var, Struct, Union, End, Pad, Field, is_aligned, is_delimited, tag_bits, variants, extent_of}
use Rattle.dsdl_types.specs.Greatest.{from_lead, longest, longest_fields, longest_variant, as_part}
use Rattle.dsdl_types.specs.Lengths.{AsPart, InRow, Length, EndsAt, VariantLength, Size}
use Rattle.dsdl_types.proofs.Lengths.{up_most}
use Rattle.dsdl_types.proofs.Cuts.{lead_mono}

part_at_most : (d : Bool) (e l : ℕ) (P : ℕ → Type 0) → ((n : ℕ) → P n → n ≤ l) → (n : ℕ) → AsPart d e P n → n ≤ as_part d e l
part_at_most false e l P h n k = h n k
part_at_most true e l P h n k = omega (arith, k.1, k.2)

row_at_most : (P : ℕ → Type 0) (l : ℕ) → ((n : ℕ) → P n → n ≤ l) → (k n : ℕ) → InRow P k n → n ≤ k * l
row_at_most P l h zero n e = omega arith
row_at_most P l h (suc k) n e =
    let times : suc k * l ≡ l + k * l = grind arith in
    omega (arith, h e.0 e.2, row_at_most P l h k e.1 e.3, e.4)

mutual
  pub at_most : (s : Sch) (n : ℕ) → Length s n → n ≤ longest s
  at_most (Simple t) n h = omega arith
  at_most (Fixed s k) n h = row_at_most (Size s) (as_part (is_delimited s) (extent_of s) (longest s)) (part_at_most (is_delimited s) (extent_of s) (longest s) (Length s) (at_most s)) k n h
  at_most (Var s c) n h =
      let m = as_part (is_delimited s) (extent_of s) (longest s) in
      omega (arith, row_at_most (Size s) m (part_at_most (is_delimited s) (extent_of s) (longest s) (Length s) (at_most s)) h.0 h.1 h.3, mul-le-mul_right m h.2, h.4)
  at_most (Struct fs f) n h = omega (arith, h.2, up_most h.0 (longest_fields fs 0) (ends_most fs 0 0 h.0 (omega arith) h.1))
  at_most (Union fs f) n h =
      let w = tag_bits (variants fs) in
      let v : w + h.0 ≤ w + longest_variant fs = omega (arith, variant_most fs h.0 h.1) in
      omega (arith, h.2, up_most (w + h.0) (w + longest_variant fs) v)

  pub ends_most : (fs : Flds) (p q n : ℕ) → p ≤ q → EndsAt fs p n → n ≤ longest_fields fs q
  ends_most End p q n h e = omega arith
  ends_most (Pad k fs) p q n h e = ends_most fs (p + k) (q + k) n (omega arith) e
  ends_most (Field name s fs) p q n h e =
      let m = as_part (is_delimited s) (extent_of s) (longest s) in
      ends_most fs (from_lead (is_aligned s) p + e.0) (from_lead (is_aligned s) q + m) n
      (omega (arith, lead_mono (is_aligned s) p q h, part_at_most (is_delimited s) (extent_of s) (longest s) (Length s) (at_most s) e.0 e.1)) e.2

  pub variant_most : (fs : Flds) (n : ℕ) → VariantLength fs n → n ≤ longest_variant fs
  variant_most End n h = absurd h
  variant_most (Pad k fs) n h = variant_most fs n h
  variant_most (Field name s fs) n (inl h) = omega (arith, part_at_most (is_delimited s) (extent_of s) (longest s) (Length s) (at_most s) n h)
  variant_most (Field name s fs) n (inr h) = omega (arith, variant_most fs n h)
