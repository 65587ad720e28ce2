-- Powers of a fraction, by products from 1 on.
use Rattle.std.proofs.Common.{◌≡◌, ℕ, zero, suc, ◌+◌, ◌*◌, ◌<◌, ◌^◌, ◌⊎◌, inl, inr, ℤ, pos, ◌*ℤ◌, unsigned_abs, Bool, true, false, Result, Ok, Err, if◌then◌else◌, refl, sym, ap, ◌∙◌, subst, arith, add-one}
use Rattle.std.proofs.Math.Nat.{pow-suc, pow-zero, eq-or-lt_of_le}
use Rattle.cy_ratio.specs.Fraction.{Fraction, IsReduced, gcd, named, fits, where_fit, power, powers, raised}
use Rattle.cy_ratio.specs.declared.RatioError.{RatioError}
use Rattle.cy_ratio.specs.declared.RatioError.TheVariants.{Range}
use Rattle.cy_ratio.proofs.GcdLemmas.{gcd_comm, gcd-mul}
use Rattle.cy_ratio.proofs.PartLemmas.{kept, kept_value, named_value, abs-mul, positive_product, gcd-one, accepted, refusal}

one-gcd : (n : ℕ) → gcd 1 n ≡ 1
one-gcd n = gcd_comm 1 n ∙ gcd-one n

power_apart : (z : ℤ) (d n : ℕ) → gcd (unsigned_abs z) d ≡ 1 → gcd (unsigned_abs (power z n)) d ≡ 1
power_apart z d zero e = one-gcd d
power_apart z d (suc n) e = ap (λ w. gcd w d) (abs-mul (power z n) z) ∙ gcd-mul (unsigned_abs (power z n)) (unsigned_abs z) d (power_apart z d n e) e

from_power : (c b n : ℕ) → gcd c b ≡ 1 → gcd c (b ^ n) ≡ 1
from_power c b zero e = ap (gcd c) (pow-zero b) ∙ gcd-one c
from_power c b (suc n) e = ap (gcd c) (pow-suc b n) ∙ gcd_comm c (b ^ n * b) ∙ gcd-mul (b ^ n) b c (gcd_comm (b ^ n) c ∙ from_power c b n e) (gcd_comm b c ∙ e)

pow_positive : (b n : ℕ) → 0 < b → 0 < b ^ n
pow_positive b zero p = omega (arith, pow-zero b)
pow_positive b (suc n) p = subst (λ w. 0 < w) (sym (pow-suc b n)) (positive_product (b ^ n) b (pow_positive b n p) p)

-- a power of a fraction in lowest terms is in lowest terms
pub power_reduced : (a : ℤ) (b n : ℕ) (v : ℤ) (m : ℕ) → IsReduced (record { num = a; den = b }) → v ≡ power a n → m ≡ b ^ n → m < 2 ^ 127 → IsReduced (record { num = v; den = m })
power_reduced a b n v m h is_v is_m small = (
  subst (λ w. 0 < w) (sym is_m) (pow_positive b n h.0),
  small,
  ap (λ w. gcd (unsigned_abs w) m) is_v ∙ ap (gcd (unsigned_abs (power a n))) is_m ∙ from_power (unsigned_abs (power a n)) b n (power_apart a b n h.2),
)

-- one more power within i128
pub record Raises (a : ℤ) (b k : ℕ) (v : ℤ) (m : ℕ) : Type 0 where
  pub num_is : v ≡ power a k
  pub den_is : m ≡ b ^ k
  pub small : m < 2 ^ 127
  pub passed : (answer : Result Fraction RatioError) → where_fit (powers (record { num = a; den = b }) k) answer ≡ answer

pub raises_none : (a : ℤ) (b : ℕ) → Raises a b 0 (pos 1) 1
raises_none a b = record { num_is = refl; den_is = sym (pow-zero b); small = omega arith; passed = λ answer. refl }

next_den : (b k den : ℕ) → den ≡ b ^ k → den * b ≡ b ^ suc k
next_den b k den e = ap (λ w. w * b) e ∙ sym (pow-suc b k)

pub raises_more : (a : ℤ) (b k : ℕ) (num v : ℤ) (den m : ℕ) → Raises a b k num den → named (num *ℤ a) ≡ Ok v → kept (den * b) ≡ Ok m → Raises a b (k + 1) v m
raises_more a b k num v den m r x y =
    let n = named_value (num *ℤ a) v x in
    let d = kept_value (den * b) m y in
    let above : num *ℤ a ≡ power a (suc k) = ap (λ w. w *ℤ a) r.num_is in
    let below : den * b ≡ b ^ suc k = next_den b k den r.den_is in
    let fits_above : fits (power a (suc k)) ≡ true = subst (λ w. fits w ≡ true) above n.0 in
    let fits_below : fits (pos (b ^ suc k)) ≡ true = subst (λ w. fits (pos w) ≡ true) below d.0 in
    let more : Raises a b (suc k) v m = record {
      num_is = n.1 ∙ above;
      den_is = d.1 ∙ below;
      small = subst (λ w. w < 2 ^ 127) (sym d.1) d.2;
      passed = λ answer. both (fits (power a (suc k))) (fits (pos (b ^ suc k))) answer (where_fit (powers (record { num = a; den = b }) k) answer) fits_above fits_below ∙ r.passed answer;
    } in
    subst (λ j. Raises a b j v m) (sym (add-one k)) more
  where
    both : (p q : Bool) (answer rest : Result Fraction RatioError) → p ≡ true → q ≡ true → (if p then (if q then rest else Err Range) else Err Range) ≡ rest
    both p q answer rest e f = rw (e, f) refl

-- after the last step
pub raises_all : (a : ℤ) (b k e : ℕ) (v : ℤ) (m : ℕ) → Raises a b k v m → k ≡ e → Ok (record { num = v; den = m }) ≡ raised (record { num = a; den = b }) e
raises_all a b k e v m r same =
    let x : Fraction = record { num = a; den = b } in
    let last : Ok (record { num = v; den = m }) ≡ raised x k = ap (λ z. Ok (record { num = z; den = m })) r.num_is ∙ ap (λ n. Ok (record { num = power a k; den = n })) r.den_is ∙ sym (r.passed (Ok (record { num = power a k; den = b ^ k }))) in
    subst (λ j. Ok (record { num = v; den = m }) ≡ raised x j) same last

either_refused : (p q : Bool) (rest : Result Fraction RatioError) → rest ≡ Err Range → (if p then (if q then rest else Err Range) else Err Range) ≡ Err Range
either_refused true true rest e = e
either_refused true false rest e = refl
either_refused false q rest e = refl

up_to : (x : Fraction) (k e : ℕ) (answer : Result Fraction RatioError) → k < e → where_fit (powers x (suc k)) answer ≡ Err Range → where_fit (powers x e) answer ≡ Err Range
up_to x k zero answer p h = absurd (omega arith)
up_to x k (suc e) answer p h = by_cases (eq-or-lt_of_le (omega arith)) (λ less. up_to x k e answer less h)
  where
    by_cases : (k ≡ e) ⊎ (k < e) → (k < e → where_fit (powers x e) answer ≡ Err Range) → where_fit (powers x (suc e)) answer ≡ Err Range
    by_cases (inl same) earlier = subst (λ j. where_fit (powers x (suc j)) answer ≡ Err Range) same h
    by_cases (inr less) earlier = either_refused (fits (power x.num (suc e))) (fits (pos (x.den ^ suc e))) (where_fit (powers x e) answer) (earlier less)

named_refused : (z : ℤ) (why : RatioError) → named z ≡ Err why → (fits z ≡ false) × (why ≡ Range)
named_refused z why h = by_test (fits z) refl
  where
    by_test : (b : Bool) → fits z ≡ b → (fits z ≡ false) × (why ≡ Range)
    by_test true e = let k : accepted z ≡ Err why = rw e at h in cc
    by_test false e = (e, let k : refusal {A = ℤ} ≡ Err why = rw e at h in cc)

kept_refused : (n : ℕ) (why : RatioError) → kept n ≡ Err why → (fits (pos n) ≡ false) × (why ≡ Range)
kept_refused n why h = by_test (fits (pos n)) refl
  where
    by_test : (b : Bool) → fits (pos n) ≡ b → (fits (pos n) ≡ false) × (why ≡ Range)
    by_test true e = let k : accepted n ≡ Err why = rw e at h in cc
    by_test false e = (e, let k : refusal {A = ℕ} ≡ Err why = rw e at h in cc)

-- a power that leaves i128 refuses all that is left
pub num_refused : (a : ℤ) (b k e : ℕ) (num : ℤ) (den : ℕ) (why : RatioError) (answer : Result Fraction RatioError) → Raises a b k num den → k < e → named (num *ℤ a) ≡ Err why → where_fit (powers (record { num = a; den = b }) e) answer ≡ Err why
num_refused a b k e num den why answer r p h =
    let n = named_refused (num *ℤ a) why h in
    let leaves : fits (power a (suc k)) ≡ false = subst (λ w. fits (w *ℤ a) ≡ false) r.num_is n.0 in
    up_to (record { num = a; den = b }) k e answer p (rw leaves refl) ∙ ap (λ w. Err w) (sym n.1)

pub den_refused : (a : ℤ) (b k e : ℕ) (num : ℤ) (den : ℕ) (why : RatioError) (answer : Result Fraction RatioError) → Raises a b k num den → k < e → kept (den * b) ≡ Err why → where_fit (powers (record { num = a; den = b }) e) answer ≡ Err why
den_refused a b k e num den why answer r p h =
    let n = kept_refused (den * b) why h in
    let leaves : fits (pos (b ^ suc k)) ≡ false = subst (λ w. fits (pos w) ≡ false) (next_den b k den r.den_is) n.0 in
    up_to (record { num = a; den = b }) k e answer p (by_first (fits (power a (suc k))) (where_fit (powers (record { num = a; den = b }) k) answer) (fits (pos (b ^ suc k))) leaves) ∙ ap (λ w. Err w) (sym n.1)
  where
    by_first : (f : Bool) (rest : Result Fraction RatioError) (q : Bool) → q ≡ false → (if f then (if q then rest else Err Range) else Err Range) ≡ Err Range
    by_first true rest q e = rw e refl
    by_first false rest q e = refl
