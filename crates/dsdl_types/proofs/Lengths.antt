-- How long the bits of a value are
use Rattle.std.proofs.Common.{◌≡◌, ℕ, zero, suc, ◌+◌, ◌*◌, ◌-◌, ◌/◌, ◌%◌, ◌≤◌, Bool, true, false, cond, List, ◌++◌, length, refl, ap, ◌∙◌, arith, length-append, le_trans}
use Rattle.std.proofs.lemmas.List.{length-replicate}
use Rattle.std.proofs.Math.Nat.{mul-le-mul_right}
use Rattle.std.specs.Prelude.{nat_lt}
use Rattle.cy_bits.specs.Bits.{bits_of, zeros, gap}
use Rattle.dsdl_types.specs.Schemas.{Prim, Sch, Flds, Simple, Fixed, Var, Struct, Union, End, Pad, Field, is_aligned, is_delimited, holding_bits, length_field_bits, tag_bits, width, variants, extent_of}
use Rattle.dsdl_types.specs.Values.{Val, Vals, Items, Parts, Tagged, Empty, More, count, items_of, parts_of, tag_of, inner_of}
use Rattle.dsdl_types.specs.Encoding.{own_bits, field_bits, variant_bits, part_bits, each, with_header, padded, lead, raw}
use Rattle.dsdl_types.specs.Fits.{Fits, FitFields, FitsVariant, AreItems, AllOf}
use Rattle.dsdl_types.specs.Greatest.{longest, longest_fields, longest_variant, as_part, up, from_lead}
use Rattle.dsdl_types.specs.Sound.{IsSound, AreSound}
use Rattle.dsdl_types.specs.Cast.{cast_simple}
use Rattle.cy_bits.proofs.BitFacts.{length_bits_of}

pub gap_none : (p : ℕ) → p % 8 ≡ 0 → gap p ≡ 0
gap_none p h = omega arith

pub gap_same : (p q : ℕ) → p % 8 ≡ q % 8 → gap p ≡ gap q
gap_same p q h = omega arith

pub up_whole : (p : ℕ) → (p + gap p) % 8 ≡ 0
up_whole p = omega arith

pub up_most : (p q : ℕ) → p ≤ q → up p ≤ up q
up_most p q h = omega arith

pub sum_whole : (a b : ℕ) → a % 8 ≡ 0 → b % 8 ≡ 0 → (a + b) % 8 ≡ 0
sum_whole a b h k = omega arith

pub length_padded : (l : List Bool) → length (padded l) ≡ up (length l)
length_padded l = length-append l (zeros (gap (length l))) ∙ ap (λ n. length l + n) (length-replicate (gap (length l)) false)

pub padded_whole : (l : List Bool) → length (padded l) % 8 ≡ 0
padded_whole l = omega (arith, length_padded l)

whole_if : (b : Bool) (x y : ℕ) → x % 8 ≡ 0 → y % 8 ≡ 0 → cond b x y % 8 ≡ 0
whole_if true x y h k = h
whole_if false x y h k = k

pub holding_bits_whole : (n : ℕ) → holding_bits n % 8 ≡ 0
holding_bits_whole n = whole_if (nat_lt n 256) 8 _ refl (whole_if (nat_lt n 65536) 16 _ refl (whole_if (nat_lt n 4294967296) 32 64 refl refl))

pub with_header_length : (d : Bool) (l : List Bool) → length (with_header d l) ≡ as_part d (length l) (length l)
with_header_length false l = refl
with_header_length true l = length-append (bits_of 32 (length l / 8)) l ∙ ap (λ n. n + length l) (length_bits_of 32 (length l / 8))

pub with_header_whole : (d : Bool) (l : List Bool) → length l % 8 ≡ 0 → length (with_header d l) % 8 ≡ 0
with_header_whole false l h = h
with_header_whole true l h = omega (arith, with_header_length true l)

pub each_whole : (f : Val → List Bool) → ((v : Val) → length (f v) % 8 ≡ 0) → (vs : Vals) → length (each f vs) % 8 ≡ 0
each_whole f h Empty = refl
each_whole f h (More v vs) = omega (arith, length-append (f v) (each f vs), h v, each_whole f h vs)

-- what is aligned takes whole bytes
pub own_whole : (s : Sch) (v : Val) → is_aligned s ≡ true → length (own_bits s v) % 8 ≡ 0
own_whole (Simple t) v h = cc
own_whole (Fixed s n) v h = each_whole (part_bits s) (λ x. with_header_whole (is_delimited s) (own_bits s x) (own_whole s x h)) (items_of v)
own_whole (Var s c) v h =
    let e = each_whole (part_bits s) (λ x. with_header_whole (is_delimited s) (own_bits s x) (own_whole s x h)) (items_of v) in
    omega (arith, length-append (bits_of (length_field_bits c) (count (items_of v))) (each (part_bits s) (items_of v)), length_bits_of (length_field_bits c) (count (items_of v)), holding_bits_whole c)
own_whole (Struct fs f) v h = padded_whole (field_bits fs 0 (parts_of v))
own_whole (Union fs f) v h = padded_whole (bits_of (tag_bits (variants fs)) (tag_of v) ++ variant_bits fs (tag_of v) (inner_of v))

pub part_whole : (s : Sch) (v : Val) → is_aligned s ≡ true → length (part_bits s v) % 8 ≡ 0
part_whole s v h = with_header_whole (is_delimited s) (own_bits s v) (own_whole s v h)

pub delimited_aligned : (s : Sch) → is_delimited s ≡ true → is_aligned s ≡ true
delimited_aligned (Simple t) h = cc
delimited_aligned (Fixed s n) h = cc
delimited_aligned (Var s n) h = cc
delimited_aligned (Struct fs f) h = refl
delimited_aligned (Union fs f) h = refl

pub longest_extent : (s : Sch) → IsSound s → is_delimited s ≡ true → longest s ≤ extent_of s
longest_extent (Simple t) i h = cc
longest_extent (Fixed s n) i h = cc
longest_extent (Var s n) i h = cc
longest_extent (Struct fs f) i h = i.0.0
longest_extent (Union fs f) i h = i.0.0

as_part_most : (d : Bool) (e m : ℕ) (l : List Bool) → (d ≡ true → m ≤ e) → length l ≤ m → length (with_header d l) ≤ as_part d e m
as_part_most false e m l h k = k
as_part_most true e m l h k = let h' : m ≤ e = h refl in omega (arith, with_header_length true l)

part_most : (s : Sch) (v : Val) → IsSound s → length (own_bits s v) ≤ longest s → length (part_bits s v) ≤ as_part (is_delimited s) (extent_of s) (longest s)
part_most s v i h = as_part_most (is_delimited s) (extent_of s) (longest s) (own_bits s v) (longest_extent s i) h

suc_times : (n m : ℕ) → suc n * m ≡ m + n * m
suc_times n m = grind arith

each_most : (f : Val → List Bool) (P : Val → Type 0) (m : ℕ) → ((v : Val) → P v → length (f v) ≤ m) → (vs : Vals) → AllOf P vs → length (each f vs) ≤ count vs * m
each_most f P m h Empty a = omega arith
each_most f P m h (More v vs) a = omega (arith, length-append (f v) (each f vs), h v a.0, each_most f P m h vs a.1, suc_times (count vs) m)

items_most : (f : Val → List Bool) (P : Val → Type 0) (N : ℕ → Type 0) (m n : ℕ) → ((v : Val) → P v → length (f v) ≤ m) → ((k : ℕ) → N k → k ≤ n) → (v : Val) → AreItems N P v → length (each f (items_of v)) ≤ n * m
items_most f P N m n h k (Items vs) a = le_trans (each_most f P m h vs a.1) (mul-le-mul_right m (k (count vs) a.0))
items_most f P N m n h k v a = absurd a

lead_most : (d : Bool) (p q : ℕ) → p ≤ q → p + length (lead d p) ≤ from_lead d q
lead_most false p q h = omega arith
lead_most true p q h = omega (arith, length-replicate (gap p) false)

mutual
  pub own_most : (s : Sch) (v : Val) → IsSound s → Fits s v → length (own_bits s v) ≤ longest s
  own_most (Simple t) v i h = omega (arith, length_bits_of (width t) (raw (width t) (cast_simple t v)))
  own_most (Fixed s n) v i h = items_most (part_bits s) (Fits s) (λ k. k ≡ n) (as_part (is_delimited s) (extent_of s) (longest s)) n (λ x fx. part_most s x i (own_most s x i fx)) (λ k e. omega arith) v h
  own_most (Var s c) v i h =
      let e = items_most (part_bits s) (Fits s) (λ k. k ≤ c) (as_part (is_delimited s) (extent_of s) (longest s)) c (λ x fx. part_most s x i.1 (own_most s x i.1 fx)) (λ k e. e) v h in
      omega (arith, length-append (bits_of (length_field_bits c) (count (items_of v))) (each (part_bits s) (items_of v)), length_bits_of (length_field_bits c) (count (items_of v)))
  own_most (Struct fs f) (Parts vs) i h = omega (arith, length_padded (field_bits fs 0 vs), fields_most fs 0 0 vs i.1 h (omega arith))
  own_most (Struct fs f) v i h = absurd h
  own_most (Union fs f) (Tagged t v) i h =
      omega (
        arith,
        length_padded (bits_of (tag_bits (variants fs)) t ++ variant_bits fs t v),
        length-append (bits_of (tag_bits (variants fs)) t) (variant_bits fs t v),
        length_bits_of (tag_bits (variants fs)) t,
        variant_most fs t v i.2 h,
      )
  own_most (Union fs f) v i h = absurd h

  pub fields_most : (fs : Flds) (p q : ℕ) (vs : Vals) → AreSound fs → FitFields fs vs → p ≤ q → p + length (field_bits fs p vs) ≤ longest_fields fs q
  fields_most End p q vs i h k = omega arith
  fields_most (Pad n fs) p q vs i h k =
      omega (arith, length-append (zeros n) (field_bits fs (p + n) vs), length-replicate n false, fields_most fs (p + n) (q + n) vs i h (omega arith))
  fields_most (Field name s fs) p q Empty i h k = absurd h
  fields_most (Field name s fs) p q (More v vs) i h k =
      let l = length (lead (is_aligned s) p) in
      let m = length (part_bits s v) in
      let ll : p + l ≤ from_lead (is_aligned s) q = lead_most (is_aligned s) p q k in
      let mm : m ≤ as_part (is_delimited s) (extent_of s) (longest s) = part_most s v i.0 (own_most s v i.0 h.0) in
      omega (
        arith,
        length-append (lead (is_aligned s) p) (part_bits s v ++ field_bits fs (p + (l + m)) vs),
        length-append (part_bits s v) (field_bits fs (p + (l + m)) vs),
        fields_most fs (p + (l + m)) (from_lead (is_aligned s) q + as_part (is_delimited s) (extent_of s) (longest s)) vs i.1 h.1 (omega arith),
      )

  pub variant_most : (fs : Flds) (k : ℕ) (v : Val) → AreSound fs → FitsVariant fs k v → length (variant_bits fs k v) ≤ longest_variant fs
  variant_most End k v i h = absurd h
  variant_most (Pad n fs) k v i h = variant_most fs k v i h
  variant_most (Field name s fs) zero v i h = omega (arith, part_most s v i.0 (own_most s v i.0 h))
  variant_most (Field name s fs) (suc k) v i h = omega (arith, variant_most fs k v i.1 h)
