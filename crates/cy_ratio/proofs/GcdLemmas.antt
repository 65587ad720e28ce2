-- The greatest common divisor as Euclid's algorithm gives it.
use Rattle.std.proofs.Common.{◌≡◌, ℕ, zero, suc, ◌+◌, ◌*◌, ◌/◌, ◌%◌, ◌<◌, ◌≤◌, refl, sym, ap, ◌∙◌, subst, arith}
use Rattle.std.specs.Int.{IsGcd, ◌∣◌}
use Rattle.std.proofs.lemmas.Nat.Gcd.{IsGcd-from_zero, IsGcd-from_mod, IsGcd-swap, same_from_IsGcd, dvd_refl, dvd_trans, le_of_dvd}
use Rattle.std.proofs.lemmas.Nat.{mod-mul-add}
use Rattle.std.proofs.Math.Nat.{mul-zero, one-mul, mul-le-mul_right, mul_assoc, add-mul, pos_of_dvd_of_pos, one-dvd, div-mul_cancel, mul-dvd-mul_right, dvd_of_mul-dvd-mul_right, dvd-mul_right}
use Rattle.cy_ratio.specs.Fraction.{divisor_by, gcd}

-- more divisions than the second number change nothing
enough : (n m a b : ℕ) → b ≤ n → b ≤ m → divisor_by n a b ≡ divisor_by m a b
unfolding divisor_by
enough zero zero a b p q = refl
enough zero (suc m) a zero p q = refl
enough zero (suc m) a (suc b) p q = absurd (omega arith)
enough (suc n) zero a zero p q = refl
enough (suc n) zero a (suc b) p q = absurd (omega arith)
enough (suc n) (suc m) a zero p q = refl
enough (suc n) (suc m) a (suc b) p q = enough n m (suc b) (a % suc b) (omega arith) (omega arith)

-- one division
pub gcd-mod : (a b : ℕ) → 0 < b → gcd b (a % b) ≡ gcd a b
unfolding gcd divisor_by
gcd-mod a zero p = absurd (omega arith)
gcd-mod a (suc b) p = enough (a % suc b) b (suc b) (a % suc b) (omega arith) (omega arith)

pub gcd-zero : (a : ℕ) → gcd a 0 ≡ a
unfolding gcd divisor_by
gcd-zero a = refl

by_divisions : (n a b : ℕ) → b ≤ n → IsGcd a b (divisor_by n a b)
unfolding divisor_by
by_divisions zero a b p = IsGcd-from_zero a b (omega arith)
by_divisions (suc n) a zero p = IsGcd-from_zero a zero refl
by_divisions (suc n) a (suc b) p = IsGcd-from_mod a (suc b) (divisor_by n (suc b) (a % suc b)) (by_divisions n (suc b) (a % suc b) (omega arith))

-- Euclid's algorithm gives a greatest common divisor
pub IsGcd-gcd : (a b : ℕ) → IsGcd a b (gcd a b)
unfolding gcd
IsGcd-gcd a b = by_divisions b a b (omega arith)

pub gcd_is : (a b g : ℕ) → IsGcd a b g → gcd a b ≡ g
gcd_is a b g h = same_from_IsGcd a b (gcd a b) g (IsGcd-gcd a b) h

pub gcd_positive : (a b : ℕ) → 0 < b → 0 < gcd a b
gcd_positive a b p = pos_of_dvd_of_pos (IsGcd-gcd a b).1 p

pub gcd_at_most : (a b : ℕ) → 0 < b → gcd a b ≤ b
gcd_at_most a b p = le_of_dvd p (IsGcd-gcd a b).1

pub gcd_comm : (a b : ℕ) → gcd a b ≡ gcd b a
gcd_comm a b = gcd_is a b (gcd b a) (IsGcd-swap b a (gcd b a) (IsGcd-gcd b a))

mod-scale : (a b k : ℕ) → 0 < b → 0 < k → (a * k) % (b * k) ≡ a % b * k
mod-scale a b k p q =
    let below : a % b < b = omega arith in
    let most : suc (a % b) * k ≤ b * k = mul-le-mul_right k (omega arith) in
    let least : a % b * k < b * k = omega (arith, most) in
    let whole : a ≡ a / b * b + a % b = omega arith in
    let parts : a * k ≡ a / b * (b * k) + a % b * k = ap (λ n. n * k) whole ∙ add-mul (a / b * b) (a % b) k ∙ ap (λ n. n + a % b * k) (mul_assoc (a / b) b k) in
    ap (λ n. n % (b * k)) parts ∙ mod-mul-add (a / b) (b * k) (a % b * k) least

scaled_by : (n a b k : ℕ) → b ≤ n → 0 < k → IsGcd (a * k) (b * k) (divisor_by n a b * k)
unfolding divisor_by
scaled_by zero a b k p q = let none : b ≡ 0 = omega arith in IsGcd-from_zero (a * k) (b * k) (omega (arith, ap (λ n. n * k) none))
scaled_by (suc n) a zero k p q = IsGcd-from_zero (a * k) (0 * k) (omega arith)
scaled_by (suc n) a (suc b) k p q =
    IsGcd-from_mod (a * k) (suc b * k) (divisor_by n (suc b) (a % suc b) * k)
    (subst (λ m. IsGcd (suc b * k) m (divisor_by n (suc b) (a % suc b) * k)) (sym (mod-scale a (suc b) k (omega arith) q)) (scaled_by n (suc b) (a % suc b) k (omega arith) q))

-- a common factor of two numbers is one of their divisor
pub IsGcd-scale : (a b k : ℕ) → 0 < k → IsGcd (a * k) (b * k) (gcd a b * k)
unfolding gcd
IsGcd-scale a b k q = scaled_by b a b k (omega arith) q

-- what divides a product, and has nothing in common with one factor, divides the other
pub dvd_other : (a b d : ℕ) → 0 < b → gcd a d ≡ 1 → d ∣ a * b → d ∣ b
dvd_other a b d p e h =
    let both : d ∣ gcd a d * b = (IsGcd-scale a d b p).2 d h (dvd-mul_right d b) in
    subst (λ n. d ∣ n) (ap (λ n. n * b) e ∙ one-mul b) both

one_is : (a b : ℕ) → ((d : ℕ) → d ∣ a → d ∣ b → d ∣ 1) → gcd a b ≡ 1
one_is a b h = gcd_is a b 1 (one-dvd a, one-dvd b, h)

-- divisors of two numbers that have nothing in common
pub gcd_of_dvd : (a b u v : ℕ) → gcd a b ≡ 1 → u ∣ a → v ∣ b → gcd u v ≡ 1
gcd_of_dvd a b u v e p q = one_is u v (λ d x y. subst (λ n. d ∣ n) e ((IsGcd-gcd a b).2 d (dvd_trans d x p) (dvd_trans d y q)))

-- a product of numbers that have nothing in common with a third
pub gcd-mul : (a b c : ℕ) → gcd a c ≡ 1 → gcd b c ≡ 1 → gcd (a * b) c ≡ 1
gcd-mul a zero c e f = ap (λ n. gcd n c) (mul-zero a) ∙ f
gcd-mul a (suc b) c e f = one_is (a * suc b) c (λ d x y.
    let z : d ∣ suc b = dvd_other a (suc b) d (omega arith) (gcd_of_dvd a c a d e (dvd_refl a) y) x in
    subst (λ n. d ∣ n) f ((IsGcd-gcd (suc b) c).2 d z y))

-- what is left of two numbers by their divisor has nothing in common
pub gcd-div : (a b : ℕ) → 0 < b → gcd (a / gcd a b) (b / gcd a b) ≡ 1
gcd-div a b p =
    let g = gcd a b in
    let h : IsGcd a b g = IsGcd-gcd a b in
    one_is (a / g) (b / g) (λ d x y.
    let u : d * g ∣ a = subst (λ n. d * g ∣ n) (div-mul_cancel g h.0) (mul-dvd-mul_right d x g) in
    let v : d * g ∣ b = subst (λ n. d * g ∣ n) (div-mul_cancel g h.1) (mul-dvd-mul_right d y g) in
    let w : d * g ∣ 1 * g = subst (λ n. d * g ∣ n) (sym (one-mul g)) (h.2 (d * g) u v) in
    dvd_of_mul-dvd-mul_right d (gcd_positive a b p) w)

pub div_positive : (a b : ℕ) → 0 < b → 0 < b / gcd a b
div_positive a b p =
    let e : b / gcd a b * gcd a b ≡ b = div-mul_cancel (gcd a b) (IsGcd-gcd a b).1 in
    pos_of_dvd_of_pos (subst (λ n. b / gcd a b ∣ n) e (dvd-mul_right (b / gcd a b) (gcd a b))) p
