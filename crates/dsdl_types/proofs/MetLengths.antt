-- The lengths of values are lengths of their types, and the greatest is one too
use Rattle.std.proofs.Common.{◌≡◌, ℕ, zero, suc, ◌+◌, ◌*◌, ◌-◌, ◌/◌, ◌%◌, ◌≤◌, max, Bool, true, false, not, List, ◌++◌, length, refl, ap, ◌∙◌, subst, arith, inl, inr, length-append}
use Rattle.std.proofs.lemmas.Bool.{cases_lt}
use Rattle.std.proofs.lemmas.List.{length-replicate}
use Rattle.cy_bits.specs.Bits.{bits_of, zeros, gap}
use Rattle.cy_bits.proofs.BitFacts.{length_bits_of}
use Rattle.dsdl_types.specs.Schemas.{Prim, Sch, Flds, Simple, Fixed, Var, Struct, Union, End, Pad, Field, is_aligned, is_delimited, length_field_bits, tag_bits, width, variants, extent_of}
use Rattle.dsdl_types.specs.Values.{Val, Vals, Items, Parts, Tagged, Empty, More, count, items_of}
use Rattle.dsdl_types.specs.Cast.{cast_simple}
use Rattle.dsdl_types.specs.Fits.{Fits, FitFields, FitsVariant, AreItems, AllOf}
use Rattle.dsdl_types.specs.Encoding.{own_bits, field_bits, variant_bits, part_bits, each, with_header, lead, raw}
use Rattle.dsdl_types.specs.Greatest.{up, from_lead, longest, longest_fields, longest_variant, as_part}
use Rattle.dsdl_types.specs.Lengths.{AsPart, InRow, Length, EndsAt, VariantLength, Size}
use Rattle.dsdl_types.specs.Sound.{IsSound, AreSound}
use Rattle.dsdl_types.specs.Rules.{IsFormed, AreFormed, IsExtent}
use Rattle.dsdl_types.proofs.Lengths.{length_padded, with_header_length, longest_extent, delimited_aligned, own_whole, own_most}

-- the length of a part is one of its sizes
with_header_size : (d : Bool) (e : ℕ) (P : ℕ → Type 0) (l : List Bool) → (d ≡ true → (length l % 8 ≡ 0) × (length l ≤ e)) → P (length l) → AsPart d e P (length (with_header d l))
with_header_size false e P l h p = p
with_header_size true e P l h p = let k = h refl in (length l / 8, omega (arith, k.0, k.1), omega (arith, with_header_length true l, k.0))

part_size : (s : Sch) (v : Val) → IsSound s → Fits s v → Length s (length (own_bits s v)) → Size s (length (part_bits s v))
part_size s v i f h =
    with_header_size (is_delimited s) (extent_of s) (Length s) (own_bits s v)
    (λ d. (own_whole s v (delimited_aligned s d), omega (arith, own_most s v i f, longest_extent s i d))) h

each_in_row : (f : Val → List Bool) (P : Val → Type 0) (Q : ℕ → Type 0) → ((v : Val) → P v → Q (length (f v))) → (vs : Vals) → AllOf P vs → InRow Q (count vs) (length (each f vs))
each_in_row f P Q h Empty a = refl
each_in_row f P Q h (More v vs) a = (length (f v), length (each f vs), h v a.0, each_in_row f P Q h vs a.1, length-append (f v) (each f vs))

items_in_row : (f : Val → List Bool) (P : Val → Type 0) (N : ℕ → Type 0) (Q : ℕ → Type 0) → ((v : Val) → P v → Q (length (f v))) → (v : Val) → AreItems N P v →
    N (count (items_of v)) × InRow Q (count (items_of v)) (length (each f (items_of v)))
items_in_row f P N Q h (Items vs) a = (a.0, each_in_row f P Q h vs a.1)
items_in_row f P N Q h v a = absurd a

lead_from : (d : Bool) (p : ℕ) → p + length (lead d p) ≡ from_lead d p
lead_from false p = omega arith
lead_from true p = omega (arith, length-replicate (gap p) false)

mutual
  pub own_length : (s : Sch) (v : Val) → IsSound s → Fits s v → Length s (length (own_bits s v))
  own_length (Simple t) v i h = length_bits_of (width t) (raw (width t) (cast_simple t v))
  own_length (Fixed s n) v i h =
      let r = items_in_row (part_bits s) (Fits s) (λ k. k ≡ n) (Size s) (λ x fx. part_size s x i fx (own_length s x i fx)) v h in
      subst (λ k. InRow (Size s) k (length (each (part_bits s) (items_of v)))) r.0 r.1
  own_length (Var s c) v i h =
      let r = items_in_row (part_bits s) (Fits s) (λ k. k ≤ c) (Size s) (λ x fx. part_size s x i.1 fx (own_length s x i.1 fx)) v h in (
        count (items_of v),
        length (each (part_bits s) (items_of v)),
        r.0,
        r.1,
        omega (arith, length-append (bits_of (length_field_bits c) (count (items_of v))) (each (part_bits s) (items_of v)), length_bits_of (length_field_bits c) (count (items_of v))),
      )
  own_length (Struct fs o) (Parts vs) i h =
      let e : 0 + length (field_bits fs 0 vs) ≡ length (field_bits fs 0 vs) = omega arith in
      (length (field_bits fs 0 vs), subst (λ m. EndsAt fs 0 m) e (fields_end fs 0 vs i.1 h), length_padded (field_bits fs 0 vs))
  own_length (Struct fs o) v i h = absurd h
  own_length (Union fs o) (Tagged t v) i h =
      let w = tag_bits (variants fs) in
      let e : length (bits_of w t ++ variant_bits fs t v) ≡ w + length (variant_bits fs t v) = omega (arith, length-append (bits_of w t) (variant_bits fs t v), length_bits_of w t) in
      (length (variant_bits fs t v), variant_length fs t v i.2 h, length_padded (bits_of w t ++ variant_bits fs t v) ∙ ap (λ n. up n) e)
  own_length (Union fs o) v i h = absurd h

  fields_end : (fs : Flds) (p : ℕ) (vs : Vals) → AreSound fs → FitFields fs vs → EndsAt fs p (p + length (field_bits fs p vs))
  fields_end End p vs i h = omega arith
  fields_end (Pad n fs) p vs i h =
      let e : p + n + length (field_bits fs (p + n) vs) ≡ p + length (zeros n ++ field_bits fs (p + n) vs) =
      omega (arith, length-append (zeros n) (field_bits fs (p + n) vs), length-replicate n false)
      in
      subst (λ m. EndsAt fs (p + n) m) e (fields_end fs (p + n) vs i h)
  fields_end (Field name s fs) p Empty i h = absurd h
  fields_end (Field name s fs) p (More v vs) i h =
      let l = length (lead (is_aligned s) p) in
      let m = length (part_bits s v) in
      let q : p + (l + m) ≡ from_lead (is_aligned s) p + m = omega (arith, lead_from (is_aligned s) p) in
      let e : p + (l + m) + length (field_bits fs (p + (l + m)) vs) ≡ p + length (lead (is_aligned s) p ++ (part_bits s v ++ field_bits fs (p + (l + m)) vs)) =
      omega (arith, length-append (lead (is_aligned s) p) (part_bits s v ++ field_bits fs (p + (l + m)) vs), length-append (part_bits s v) (field_bits fs (p + (l + m)) vs))
      in (
        m,
        part_size s v i.0 h.0 (own_length s v i.0 h.0),
        subst (λ z. EndsAt fs z (p + length (lead (is_aligned s) p ++ (part_bits s v ++ field_bits fs (p + (l + m)) vs)))) q
            (subst (λ z. EndsAt fs (p + (l + m)) z) e (fields_end fs (p + (l + m)) vs i.1 h.1)),
      )

  variant_length : (fs : Flds) (k : ℕ) (v : Val) → AreSound fs → FitsVariant fs k v → VariantLength fs (length (variant_bits fs k v))
  variant_length End k v i h = absurd h
  variant_length (Pad n fs) k v i h = variant_length fs k v i h
  variant_length (Field name s fs) zero v i h = inl (part_size s v i.0 h (own_length s v i.0 h))
  variant_length (Field name s fs) (suc k) v i h = inr (variant_length fs k v i.1 h)

-- the greatest size is one
size_met : (d : Bool) (e l : ℕ) (P : ℕ → Type 0) → (d ≡ true → e % 8 ≡ 0) → P l → AsPart d e P (as_part d e l)
size_met false e l P h p = p
size_met true e l P h p = let k = h refl in (e / 8, omega arith, omega (arith, k))

whole : (sealed : Bool) (greatest extent : ℕ) → not sealed ≡ true → IsExtent sealed greatest extent → extent % 8 ≡ 0
whole true greatest extent d h = cc
whole false greatest extent d h = h.1

extent_bytes : (s : Sch) → IsFormed s → is_delimited s ≡ true → extent_of s % 8 ≡ 0
extent_bytes (Simple t) h d = cc
extent_bytes (Fixed s n) h d = cc
extent_bytes (Var s n) h d = cc
extent_bytes (Struct fs o) h d = whole o.sealed _ o.extent d h.0.0
extent_bytes (Union fs o) h d = whole o.sealed _ o.extent d h.0.0

row_met : (P : ℕ → Type 0) (m : ℕ) → P m → (k : ℕ) → InRow P k (k * m)
row_met P m h zero = omega arith
row_met P m h (suc k) = let e : suc k * m ≡ m + k * m = grind arith in (m, k * m, h, row_met P m h k, e)

has_variant : (fs : Flds) → 1 ≤ longest_variant fs → 1 ≤ variants fs
has_variant End h = absurd (omega arith)
has_variant (Pad n fs) h = has_variant fs h
has_variant (Field name s fs) h = omega arith

part_met : (s : Sch) → IsFormed s → Length s (longest s) → Size s (as_part (is_delimited s) (extent_of s) (longest s))
part_met s h met = size_met (is_delimited s) (extent_of s) (longest s) (Length s) (extent_bytes s h) met

mutual
  pub longest_met : (s : Sch) → IsFormed s → Length s (longest s)
  longest_met (Simple t) h = refl
  longest_met (Fixed s n) h = row_met (Size s) _ (part_met s h.3 (longest_met s h.3)) n
  longest_met (Var s c) h = (c, c * as_part (is_delimited s) (extent_of s) (longest s), omega arith, row_met (Size s) _ (part_met s h.3 (longest_met s h.3)) c, refl)
  longest_met (Struct fs o) h = (longest_fields fs 0, fields_met fs 0 h.1, refl)
  longest_met (Union fs o) h = (longest_variant fs, variant_met fs h.3 (omega (arith, h.1)), refl)

  fields_met : (fs : Flds) (p : ℕ) → AreFormed fs → EndsAt fs p (longest_fields fs p)
  fields_met End p h = refl
  fields_met (Pad n fs) p h = fields_met fs (p + n) h.2
  fields_met (Field name s fs) p h =
      let m = as_part (is_delimited s) (extent_of s) (longest s) in
      (m, part_met s h.0 (longest_met s h.0), fields_met fs (from_lead (is_aligned s) p + m) h.1)

  variant_met : (fs : Flds) → AreFormed fs → 1 ≤ variants fs → VariantLength fs (longest_variant fs)
  variant_met End h one = absurd (omega arith)
  variant_met (Pad n fs) h one = variant_met fs h.2 one
  variant_met (Field name s fs) h one =
      let m = as_part (is_delimited s) (extent_of s) (longest s) in
      elim (cases_lt m (longest_variant fs)) [
        | inl less ↦
            let some : 1 ≤ variants fs = has_variant fs (omega (arith, less)) in
            let e : longest_variant fs ≡ max m (longest_variant fs) = omega (arith, less) in
            inr (subst (λ n. VariantLength fs n) e (variant_met fs h.1 some))
        | inr more ↦
            let e : m ≡ max m (longest_variant fs) = omega (arith, more) in
            inl (subst (λ n. Size s n) e (part_met s h.0 (longest_met s h.0)))
      ]
