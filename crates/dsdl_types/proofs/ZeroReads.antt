-- Zeros read as zero
use Rattle.std.proofs.Common.{◌≡◌, ℕ, zero, suc, ◌+◌, ◌*◌, ◌-◌, ◌≤◌, Bool, true, false, List, drop, refl, ap, ◌∙◌, arith}
use Rattle.std.proofs.lemmas.Bool.{cond-true, lt-ltb}
use Rattle.std.proofs.lemmas.Nat.{pow_pos}
use Rattle.cy_bits.specs.Bits.{zeros, gap}
use Rattle.dsdl_types.specs.Schemas.{Prim, PBool, PUint, PInt, PFloat, Sch, Flds, Simple, Fixed, Var, Struct, Union, End, Pad, Field, is_aligned, is_delimited, length_field_bits, tag_bits, width, variants}
use Rattle.dsdl_types.specs.Values.{Val, Num, Items, Parts, Tagged, Empty, More, same_items, count}
use Rattle.dsdl_types.specs.Fits.{Fits, FitFields, FitsVariant, FitsSimple, AllOf}
use Rattle.dsdl_types.specs.Laws as Laws
use Rattle.dsdl_types.specs.Reading.{Read, Got, Name, Index, value_of, and_then, under, within, delimited, aligned, align, own, fields, variant, part, row}
use Rattle.dsdl_types.specs.Zero.{zero_simple, zero_of, zero_fields, zero_variant}
use Rattle.dsdl_types.specs.Sound.{IsSound, AreSound}
use Rattle.cy_bits.proofs.BitFacts.{number_take_zeros, drop_zeros, bits_zero}
use Rattle.dsdl_types.proofs.Steps.{step_is, under_is, delimited_is, union_is, var_is}

-- it reads as a, up to some place with zeros behind it
pub record ReadsZero {A : Type 0} (r : Read A) (a : A) : Type 0 where
  pub place : ℕ
  pub left : ℕ
  pub is : r ≡ Got a place (zeros left)

zero_value : (t : Prim) → value_of t 0 ≡ zero_simple t
zero_value PBool = refl
zero_value (PUint w c) = refl
zero_value (PInt w) = ap Num (cond-true _ _ _ (lt-ltb _ _ (pow_pos (w - 1))))
zero_value (PFloat w c) = refl

zero_delimited : {A : Type 0} (d : Bool) (f : ℕ → List Bool → Read A) (a : A) → ((p k : ℕ) → ReadsZero (f p (zeros k)) a) → (p k : ℕ) → ReadsZero (delimited d f p (zeros k)) a
zero_delimited false f a h p k = h p k
zero_delimited true f a h p k =
    let z = h 0 0 in
    record {
      place = p + 32 + 8 * 0;
      left = k - 32;
      is = delimited_is f p (zeros k) 0 (number_take_zeros 32 k) (omega arith)
          ∙ ap (λ x. within (p + 32 + 8 * 0) (drop 32 (zeros k)) x) z.is
          ∙ ap (λ x. Got a (p + 32 + 8 * 0) x) (drop_zeros 32 k);
    }

zero_aligned : {A : Type 0} (d : Bool) (f : ℕ → List Bool → Read A) (a : A) → ((p k : ℕ) → ReadsZero (f p (zeros k)) a) → (p k : ℕ) → ReadsZero (aligned d f p (zeros k)) a
zero_aligned false f a h p k = h p k
zero_aligned true f a h p k =
    let z = h (p + gap p) (k - gap p) in
    record { place = z.place; left = z.left; is = ap (λ x. f (p + gap p) x) (drop_zeros (gap p) k) ∙ z.is }

zero_row : (f : ℕ → List Bool → Read Val) (a : Val) → ((p k : ℕ) → ReadsZero (f p (zeros k)) a) → (n i p k : ℕ) → ReadsZero (row f n i p (zeros k)) (same_items n a)
zero_row f a h zero i p k = record { place = p; left = k; is = refl }
zero_row f a h (suc n) i p k =
    let z = h p k in
    let y = zero_row f a h n (suc i) z.place z.left in
    record {
      place = y.place;
      left = y.left;
      is = under_is (Index i) (f p (zeros k)) a z.place (zeros z.left) _ z.is ∙ step_is (row f n (suc i) z.place (zeros z.left)) (same_items n a) y.place (zeros y.left) _ y.is;
    }

mutual
  pub zero_own : (s : Sch) → IsSound s → (p k : ℕ) → ReadsZero (own s p (zeros k)) (zero_of s)
  zero_own (Simple t) i p k = record {
    place = p + width t;
    left = k - width t;
    is = ap (λ n. Got (value_of t n) (p + width t) (drop (width t) (zeros k))) (number_take_zeros (width t) k)
        ∙ ap (λ v. Got v (p + width t) (drop (width t) (zeros k))) (zero_value t)
        ∙ ap (λ x. Got (zero_simple t) (p + width t) x) (drop_zeros (width t) k);
  }
  zero_own (Fixed s n) i p k =
      let z = zero_row (part s) (zero_of s) (zero_delimited (is_delimited s) (own s) (zero_of s) (zero_own s i)) n 0 p k in
      record { place = z.place; left = z.left; is = step_is (row (part s) n 0 p (zeros k)) (same_items n (zero_of s)) z.place (zeros z.left) (λ vs. Got (Items vs)) z.is }
  zero_own (Var s c) i p k = record {
    place = p + length_field_bits c;
    left = k - length_field_bits c;
    is = var_is s c p (zeros k) 0 (number_take_zeros (length_field_bits c) k) (omega arith) ∙ ap (λ x. Got (Items Empty) (p + length_field_bits c) x) (drop_zeros (length_field_bits c) k);
  }
  zero_own (Struct fs f) i p k =
      let z = zero_fields_read fs i.1 p k in
      record {
        place = z.place + gap z.place;
        left = z.left - gap z.place;
        is = step_is (fields fs p (zeros k)) (zero_fields fs) z.place (zeros z.left) (λ vs q more. align (Parts vs) q more) z.is
            ∙ ap (λ x. Got (Parts (zero_fields fs)) (z.place + gap z.place) x) (drop_zeros (gap z.place) z.left);
      }
  zero_own (Union fs f) i p k =
      let w = tag_bits (variants fs) in
      let z = zero_variant_read fs i.2 (omega arith) 0 (p + w) (k - w) in
      record {
        place = z.place + gap z.place;
        left = z.left - gap z.place;
        is = union_is fs f p (zeros k) 0 (number_take_zeros w k)
            ∙ ap (λ x. and_then (variant fs 0 0 (p + w) x) (λ v q more. align (Tagged 0 v) q more)) (drop_zeros w k)
            ∙ step_is (variant fs 0 0 (p + w) (zeros (k - w))) (zero_variant fs) z.place (zeros z.left) (λ v q more. align (Tagged 0 v) q more) z.is
            ∙ ap (λ x. Got (Tagged 0 (zero_variant fs)) (z.place + gap z.place) x) (drop_zeros (gap z.place) z.left);
      }

  pub zero_fields_read : (fs : Flds) → AreSound fs → (p k : ℕ) → ReadsZero (fields fs p (zeros k)) (zero_fields fs)
  zero_fields_read End i p k = record { place = p; left = k; is = refl }
  zero_fields_read (Pad n fs) i p k =
      let z = zero_fields_read fs i (p + n) (k - n) in
      record { place = z.place; left = z.left; is = ap (λ x. fields fs (p + n) x) (drop_zeros n k) ∙ z.is }
  zero_fields_read (Field name s fs) i p k =
      let z = zero_aligned (is_aligned s) (part s) (zero_of s) (zero_delimited (is_delimited s) (own s) (zero_of s) (zero_own s i.0)) p k in
      let y = zero_fields_read fs i.1 z.place z.left in
      record {
        place = y.place;
        left = y.left;
        is = under_is (Name name) (aligned (is_aligned s) (part s) p (zeros k)) (zero_of s) z.place (zeros z.left) _ z.is
            ∙ step_is (fields fs z.place (zeros z.left)) (zero_fields fs) y.place (zeros y.left) (λ vs. Got (More (zero_of s) vs)) y.is;
      }

  pub zero_variant_read : (fs : Flds) → AreSound fs → 1 ≤ variants fs → (tag p k : ℕ) → ReadsZero (variant fs tag 0 p (zeros k)) (zero_variant fs)
  zero_variant_read End i h tag p k = absurd (omega arith)
  zero_variant_read (Pad n fs) i h tag p k = zero_variant_read fs i h tag p k
  zero_variant_read (Field name s fs) i h tag p k =
      let z = zero_delimited (is_delimited s) (own s) (zero_of s) (zero_own s i.0) p k in
      record { place = z.place; left = z.left; is = ap (λ x. under (Name name) x) z.is }

count_same : (n : ℕ) (v : Val) → count (same_items n v) ≡ n
count_same zero v = refl
count_same (suc n) v = ap suc (count_same n v)

all_same : (P : Val → Type 0) (n : ℕ) (v : Val) → P v → AllOf P (same_items n v)
all_same P zero v h = tt
all_same P (suc n) v h = (h, all_same P n v h)

zero_fits_simple : (t : Prim) → FitsSimple t (zero_simple t)
zero_fits_simple PBool = tt
zero_fits_simple (PUint w c) = omega arith
zero_fits_simple (PInt w) = omega arith
zero_fits_simple (PFloat w c) = omega (arith, pow_pos w)

mutual
  zero_fits : (s : Sch) → IsSound s → Fits s (zero_of s)
  zero_fits (Simple t) h = zero_fits_simple t
  zero_fits (Fixed s n) h = (count_same n (zero_of s), all_same (λ x. Fits s x) n (zero_of s) (zero_fits s h))
  zero_fits (Var s cap) h = (omega arith, tt)
  zero_fits (Struct fs o) h = zero_fields_fit fs h.1
  zero_fits (Union fs o) h = zero_variant_fits fs h.2 (omega (arith, h.1.0))

  zero_fields_fit : (fs : Flds) → AreSound fs → FitFields fs (zero_fields fs)
  zero_fields_fit End h = tt
  zero_fields_fit (Pad n fs) h = zero_fields_fit fs h
  zero_fields_fit (Field name s fs) h = (zero_fits s h.0, zero_fields_fit fs h.1)

  zero_variant_fits : (fs : Flds) → AreSound fs → 1 ≤ variants fs → FitsVariant fs 0 (zero_variant fs)
  zero_variant_fits End h one = absurd (omega arith)
  zero_variant_fits (Pad n fs) h one = zero_variant_fits fs h one
  zero_variant_fits (Field name s fs) h one = zero_fits s h.0

pub zero_law : (s : Sch) → IsSound s → Laws.ZeroReads s
zero_law s h = record {
  fits = zero_fits s h;
  reads = λ k. let z = zero_own s h 0 (8 * k) in (z.place, zeros z.left, ap (λ x. own s 0 x) (bits_zero k) ∙ z.is);
}
