-- The test of a length and the relation agree
use Rattle.std.proofs.Common.{◌≡◌, ℕ, zero, suc, ◌+◌, ◌*◌, ◌-◌, ◌≤◌, ◌==◌, ◌&&◌, ◌||◌, nat_le, Bool, true, false, ◌⊎◌, inl, inr, refl, subst, arith}
use Rattle.std.proofs.lemmas.Bool.{cases_lt}
use Rattle.dsdl_types.specs.Schemas.{Sch, Flds, Simple, Fixed, Var, Struct, Union, End, Pad, Field, is_aligned, is_delimited, extent_of, length_field_bits, tag_bits, width, variants}
use Rattle.dsdl_types.specs.Greatest.{up, from_lead}
use Rattle.dsdl_types.specs.Lengths.{AsPart, InRow, Length, EndsAt, VariantLength, Size}
use Rattle.const_expr.specs.Sizes.{some_to, is_part, in_row, is_length, ends_at, is_variant, is_size}

-- a test that says whether a fact holds
pub Tells : Bool → Type 0 → Type 0
Tells b P = ((b ≡ true) → P) × (P → b ≡ true)

pub equal_tells : (m n : ℕ) → Tells (m == n) (m ≡ n)
unfolding Tells
equal_tells m n = (λ h. grind arith, λ e. grind arith)

most_tells : (m n : ℕ) → Tells (nat_le m n) (m ≤ n)
unfolding Tells
most_tells m n = (λ h. grind arith, λ e. grind arith)

pub both_tell : (a b : Bool) (P Q : Type 0) → Tells a P → Tells b Q → Tells (a && b) (P × Q)
unfolding Tells
both_tell true b P Q f g = (λ h. (f.0 refl, g.0 h), λ (p, q). g.1 q)
both_tell false b P Q f g = (λ h. cc, λ (p, q). f.1 p)

either_tells : (a b : Bool) (P Q : Type 0) → Tells a P → Tells b Q → Tells (a || b) (P ⊎ Q)
unfolding Tells
either_tells true b P Q f g = (λ h. inl (f.0 refl), λ x. refl)
either_tells false b P Q f g = (λ h. inr (g.0 h), λ x. elim x [ inl p ↦ absurd (let e = f.1 p in cc) | inr q ↦ g.1 q ])

-- the same for a fact that follows from it and gives it
along : (b : Bool) (P Q : Type 0) → Tells b P → (P → Q) → (Q → P) → Tells b Q
unfolding Tells
along b P Q f there back = (λ h. there (f.0 h), λ q. f.1 (back q))

pub some_tells : (n : ℕ) (test : ℕ → Bool) (P : ℕ → Type 0) → ((k : ℕ) → Tells (test k) (P k)) → Tells (some_to n test) ((k : ℕ) × (k ≤ n) × P k)
some_tells zero test P f = along (test zero) (P zero) ((k : ℕ) × (k ≤ zero) × P k) (f zero) (λ p. (zero, omega arith, p)) (λ (k, le, p). let e : k ≡ zero = omega arith in subst P e p)
some_tells (suc n) test P f =
    along (test (suc n) || some_to n test) (P (suc n) ⊎ ((k : ℕ) × (k ≤ n) × P k)) ((k : ℕ) × (k ≤ suc n) × P k)
    (either_tells (test (suc n)) (some_to n test) (P (suc n)) ((k : ℕ) × (k ≤ n) × P k) (f (suc n)) (some_tells n test P f))
    (λ x. elim x [ inl p ↦ (suc n, omega arith, p) | inr (k, le, p) ↦ (k, omega arith, p) ])
    (λ (k, le, p). last k le p)
  where
    last : (k : ℕ) → k ≤ suc n → P k → P (suc n) ⊎ ((k : ℕ) × (k ≤ n) × P k)
    last k le p = elim (cases_lt n k) [
      | inl l ↦ let e : k ≡ suc n = omega arith in inl (subst P e p)
      | inr l ↦ inr (k, l, p)
    ]

part_tells : (d : Bool) (extent : ℕ) (own : ℕ → Bool) (P : ℕ → Type 0) → ((k : ℕ) → Tells (own k) (P k)) → (n : ℕ) → Tells (is_part d extent own n) (AsPart d extent P n)
part_tells false extent own P f n = f n
part_tells true extent own P f n =
    along _ ((c : ℕ) × (c ≤ extent) × ((8 * c ≤ extent) × (n ≡ 32 + 8 * c))) ((c : ℕ) × (8 * c ≤ extent) × (n ≡ 32 + 8 * c))
    (some_tells extent (λ c. nat_le (8 * c) extent && (n == 32 + 8 * c)) (λ c. (8 * c ≤ extent) × (n ≡ 32 + 8 * c))
    (λ c. both_tell (nat_le (8 * c) extent) (n == 32 + 8 * c) (8 * c ≤ extent) (n ≡ 32 + 8 * c) (most_tells (8 * c) extent) (equal_tells n (32 + 8 * c))))
    (λ (c, le, (small, e)). (c, small, e)) (λ (c, small, e). (c, omega arith, (small, e)))

row_tells : (test : ℕ → Bool) (P : ℕ → Type 0) → ((k : ℕ) → Tells (test k) (P k)) → (k n : ℕ) → Tells (in_row test k n) (InRow P k n)
row_tells test P f zero n = equal_tells n 0
row_tells test P f (suc k) n =
    along _ ((a : ℕ) × (a ≤ n) × (P a × InRow P k (n - a))) ((a : ℕ) × (b : ℕ) × P a × InRow P k b × (n ≡ a + b))
    (some_tells n (λ a. test a && in_row test k (n - a)) (λ a. P a × InRow P k (n - a))
    (λ a. both_tell (test a) (in_row test k (n - a)) (P a) (InRow P k (n - a)) (f a) (row_tells test P f k (n - a))))
    (λ (a, le, (p, r)). (a, n - a, p, r, omega arith))
    (λ (a, b, p, r, e). let d : b ≡ n - a = omega arith in (a, omega arith, (p, subst (InRow P k) d r)))

-- fields don't end before they begin
ends_from : (fs : Flds) (p n : ℕ) → EndsAt fs p n → p ≤ n
ends_from End p n h = omega arith
ends_from (Pad k fs) p n h = let l = ends_from fs (p + k) n h in omega arith
ends_from (Field name s fs) p n (m, x, h) = let l = ends_from fs (from_lead (is_aligned s) p + m) n h in let g = lead_more (is_aligned s) p in omega arith
  where
    lead_more : (d : Bool) (p : ℕ) → p ≤ from_lead d p
    lead_more false p = omega arith
    lead_more true p = omega arith

none : Tells false ⊥
unfolding Tells
none = (λ h. cc, λ h. absurd h)

mutual
  pub length_tells : (s : Sch) (n : ℕ) → Tells (is_length s n) (Length s n)
  length_tells (Simple t) n = equal_tells n (width t)
  length_tells (Fixed s k) n = row_tells _ _ (part_tells (is_delimited s) (extent_of s) (λ m. is_length s m) (λ m. Length s m) (λ m. length_tells s m)) k n
  length_tells (Var s cap) n =
      let size = is_part (is_delimited s) (extent_of s) (λ m. is_length s m) in
      let P = AsPart (is_delimited s) (extent_of s) (λ m. Length s m) in
      along _ ((length_field_bits cap ≤ n) × ((k : ℕ) × (k ≤ cap) × InRow P k (n - length_field_bits cap))) (Length (Var s cap) n)
      (both_tell (nat_le (length_field_bits cap) n) (some_to cap (λ k. in_row size k (n - length_field_bits cap))) (length_field_bits cap ≤ n) ((k : ℕ) × (k ≤ cap) × InRow P k (n - length_field_bits cap))
      (most_tells (length_field_bits cap) n)
      (some_tells cap (λ k. in_row size k (n - length_field_bits cap)) (λ k. InRow P k (n - length_field_bits cap))
      (λ k. row_tells size P (part_tells (is_delimited s) (extent_of s) (λ m. is_length s m) (λ m. Length s m) (λ m. length_tells s m)) k (n - length_field_bits cap))))
      (λ (le, (k, few, r)). (k, n - length_field_bits cap, few, r, omega arith))
      (λ (k, m, few, r, e). let d : m ≡ n - length_field_bits cap = omega arith in (omega arith, (k, few, subst (InRow P k) d r)))
  length_tells (Struct fs o) n =
      along _ ((m : ℕ) × (m ≤ n) × (EndsAt fs 0 m × (n ≡ up m))) (Length (Struct fs o) n)
      (some_tells n (λ m. ends_at fs 0 m && (n == up m)) (λ m. EndsAt fs 0 m × (n ≡ up m))
      (λ m. both_tell (ends_at fs 0 m) (n == up m) (EndsAt fs 0 m) (n ≡ up m) (ends_tell fs 0 m) (equal_tells n (up m))))
      (λ (m, le, (h, e)). (m, h, e)) (λ (m, h, e). (m, omega arith, (h, e)))
  length_tells (Union fs o) n =
      let tag = tag_bits (variants fs) in
      along _ ((m : ℕ) × (m ≤ n) × (VariantLength fs m × (n ≡ up (tag + m)))) (Length (Union fs o) n)
      (some_tells n (λ m. is_variant fs m && (n == up (tag + m))) (λ m. VariantLength fs m × (n ≡ up (tag + m)))
      (λ m. both_tell (is_variant fs m) (n == up (tag + m)) (VariantLength fs m) (n ≡ up (tag + m)) (variant_tells fs m) (equal_tells n (up (tag + m)))))
      (λ (m, le, (h, e)). (m, h, e)) (λ (m, h, e). (m, omega arith, (h, e)))

  pub ends_tell : (fs : Flds) (p n : ℕ) → Tells (ends_at fs p n) (EndsAt fs p n)
  ends_tell End p n = equal_tells n p
  ends_tell (Pad k fs) p n = ends_tell fs (p + k) n
  ends_tell (Field name s fs) p n =
      let size = is_part (is_delimited s) (extent_of s) (λ l. is_length s l) in
      let P = AsPart (is_delimited s) (extent_of s) (λ m. Length s m) in
      let from = from_lead (is_aligned s) p in
      along _ ((m : ℕ) × (m ≤ n) × (P m × EndsAt fs (from + m) n)) (EndsAt (Field name s fs) p n)
      (some_tells n (λ m. size m && ends_at fs (from + m) n) (λ m. P m × EndsAt fs (from + m) n)
      (λ m. both_tell (size m) (ends_at fs (from + m) n) (P m) (EndsAt fs (from + m) n)
      (part_tells (is_delimited s) (extent_of s) (λ l. is_length s l) (λ l. Length s l) (λ l. length_tells s l) m) (ends_tell fs (from + m) n)))
      (λ (m, le, (x, h)). (m, x, h)) (λ (m, x, h). let l = ends_from fs (from + m) n h in (m, omega arith, (x, h)))

  pub variant_tells : (fs : Flds) (n : ℕ) → Tells (is_variant fs n) (VariantLength fs n)
  variant_tells End n = none
  variant_tells (Pad k fs) n = variant_tells fs n
  variant_tells (Field name s fs) n =
      either_tells (is_part (is_delimited s) (extent_of s) (λ m. is_length s m) n) (is_variant fs n) (AsPart (is_delimited s) (extent_of s) (λ m. Length s m) n) (VariantLength fs n)
      (part_tells (is_delimited s) (extent_of s) (λ m. is_length s m) (λ m. Length s m) (λ m. length_tells s m) n) (variant_tells fs n)

pub size_tells : (s : Sch) (n : ℕ) → Tells (is_size s n) (Size s n)
size_tells s n = part_tells (is_delimited s) (extent_of s) (λ m. is_length s m) (λ m. Length s m) (λ m. length_tells s m) n

pub told : (b : Bool) (P : Type 0) → Tells b P → b ≡ true → P
unfolding Tells
told b P f = f.0

pub tells : (b : Bool) (P : Type 0) → Tells b P → P → b ≡ true
unfolding Tells
tells b P f = f.1
