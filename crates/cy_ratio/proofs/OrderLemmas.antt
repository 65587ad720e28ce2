-- Comparing fractions by their numerators, by their whole parts and by their rests.
use Rattle.std.proofs.Common.{◌≡◌, ◌≢◌, ℕ, zero, suc, ◌+◌, ◌*◌, ◌/◌, ◌%◌, ◌<◌, ◌≤◌, ℤ, pos, ◌*ℤ◌, refl, sym, ap, ◌∙◌, arith, Less, Equal, Greater}
use Rattle.std.specs.Ordering.{nat_cmp, int_cmp, MatchOrdering}
use Rattle.std.specs.declared.cmp.Ordering.{Ordering}
use Rattle.std.specs.Cmp.{nat_cmp_is, ranked}
use Rattle.std.proofs.Math.Nat.{mul-le-mul_right, mul_assoc, mul_comm, add-mul}
use Rattle.cy_ratio.specs.Order.{scale_cmp}
use Rattle.cy_ratio.proofs.PartLemmas.{positive_product}

-- fractions of one denominator compare as their numerators
pub by_numerators : (a c : ℤ) (b d : ℕ) → 0 < b → b ≡ d → int_cmp a c ≡ int_cmp (a *ℤ pos d) (c *ℤ pos b)
by_numerators a c zero d p e = absurd (omega arith)
by_numerators a c (suc k) d p e = scale_cmp a c k ∙ ap (λ n. int_cmp (a *ℤ pos n) (c *ℤ pos (suc k))) e

-- a is below q times b, and q times d is at most c
below_across : (a b c d q : ℕ) → a < q * b → q * d ≤ c → 0 < d → a * d < c * b
below_across a b c d q h k p =
    let one : suc a * d ≤ (q * b) * d = mul-le-mul_right d h in
    let two : (q * d) * b ≤ c * b = mul-le-mul_right b k in
    omega (arith, one, two)

-- the whole parts decide where they differ
pub by_wholes : (a b c d : ℕ) → 0 < b → 0 < d → a / b ≢ c / d → nat_cmp (a / b) (c / d) ≡ nat_cmp (a * d) (c * b)
by_wholes a b c d p q n = nat_cmp_is (a * d) (c * b) (nat_cmp (a / b) (c / d)) (moved (nat_cmp (a / b) (c / d)) (ranked (a / b) (c / d) (nat_cmp (a / b) (c / d)) refl))
  where
    moved : (r : Ordering) → MatchOrdering r (a / b < c / d) (a / b ≡ c / d) (c / d < a / b) → MatchOrdering r (a * d < c * b) (a * d ≡ c * b) (c * b < a * d)
    moved Less h = let more : suc (a / b) * b ≤ c / d * b = mul-le-mul_right b h in below_across a b c d (c / d) (omega (arith, more)) (omega arith) q
    moved Equal h = absurd (n h)
    moved Greater h = let more : suc (c / d) * d ≤ a / b * d = mul-le-mul_right d h in below_across c d a b (a / b) (omega (arith, more)) (omega arith) p

shifted : (t u v : ℕ) → nat_cmp u v ≡ nat_cmp (t + u) (t + v)
shifted t u v = nat_cmp_is (t + u) (t + v) (nat_cmp u v) (moved (nat_cmp u v) (ranked u v (nat_cmp u v) refl))
  where
    moved : (r : Ordering) → MatchOrdering r (u < v) (u ≡ v) (v < u) → MatchOrdering r (t + u < t + v) (t + u ≡ t + v) (t + v < t + u)
    moved Less h = omega arith
    moved Equal h = ap (λ n. t + n) h
    moved Greater h = omega arith

-- the rests decide where they don't
pub by_rests : (a b c d : ℕ) → a / b ≡ c / d → nat_cmp (a % b * d) (c % d * b) ≡ nat_cmp (a * d) (c * b)
by_rests a b c d e =
    let whole : a ≡ a / b * b + a % b = omega arith in
    let own : c ≡ c / d * d + c % d = omega arith in
    let other : c ≡ a / b * d + c % d = own ∙ ap (λ n. n * d + c % d) (sym e) in
    let left : a * d ≡ a / b * b * d + a % b * d = ap (λ n. n * d) whole ∙ add-mul (a / b * b) (a % b) d in
    let turned : a / b * d * b ≡ a / b * b * d = mul_assoc (a / b) d b ∙ ap (λ n. a / b * n) (mul_comm d b) ∙ sym (mul_assoc (a / b) b d) in
    let right : c * b ≡ a / b * b * d + c % d * b = ap (λ n. n * b) other ∙ add-mul (a / b * d) (c % d) b ∙ ap (λ n. n + c % d * b) turned in
    shifted (a / b * b * d) (a % b * d) (c % d * b) ∙ sym (ap (λ n. nat_cmp n (a / b * b * d + c % d * b)) left) ∙ sym (ap (nat_cmp (a * d)) right)

-- and a rest of 0 is decided at once
pub by_no_rest : (u v b d : ℕ) → 0 < b → 0 < d → u * v ≡ 0 → nat_cmp u v ≡ nat_cmp (u * d) (v * b)
by_no_rest u v b d p q none = nat_cmp_is (u * d) (v * b) (nat_cmp u v) (moved u v none (nat_cmp u v) (ranked u v (nat_cmp u v) refl))
  where
    moved : (u v : ℕ) → u * v ≡ 0 → (r : Ordering) → MatchOrdering r (u < v) (u ≡ v) (v < u) → MatchOrdering r (u * d < v * b) (u * d ≡ v * b) (v * b < u * d)
    moved zero zero e Less h = absurd (omega arith)
    moved zero zero e Equal h = omega arith
    moved zero zero e Greater h = absurd (omega arith)
    moved zero (suc v) e Less h = let more : 0 < suc v * b = positive_product (suc v) b (omega arith) p in omega (arith, more)
    moved zero (suc v) e Equal h = absurd (omega arith)
    moved zero (suc v) e Greater h = absurd (omega arith)
    moved (suc u) zero e Less h = absurd (omega arith)
    moved (suc u) zero e Equal h = absurd (omega arith)
    moved (suc u) zero e Greater h = let more : 0 < suc u * d = positive_product (suc u) d (omega arith) q in omega (arith, more)
    moved (suc u) (suc v) e r h = absurd (let more : 0 < suc u * suc v = positive_product (suc u) (suc v) (omega arith) (omega arith) in omega (arith, more))
