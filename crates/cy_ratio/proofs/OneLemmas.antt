-- A value has one fraction in lowest terms.
use Rattle.std.proofs.Common.{◌≡◌, ℕ, zero, suc, ◌*◌, ◌<◌, ◌≤◌, ℤ, pos, ◌*ℤ◌, unsigned_abs, refl, sym, ap, ◌∙◌, subst, arith, Equal}
use Rattle.std.specs.Int.{◌∣◌}
use Rattle.std.specs.Ordering.{int_cmp}
use Rattle.std.proofs.lemmas.Cmp.{int_cmp_total, tied_itself}
use Rattle.std.proofs.lemmas.Nat.Gcd.{le_of_dvd}
use Rattle.std.proofs.Math.Nat.{dvd-mul_left}
use Rattle.cy_ratio.specs.Fraction.{Fraction, IsReduced, gcd, divisor, order_of}
use Rattle.cy_ratio.specs.Value.{IsWorth}
use Rattle.cy_ratio.specs.Order.{scale_cmp, equal_is}
use Rattle.cy_ratio.proofs.GcdLemmas.{dvd_other}
use Rattle.cy_ratio.proofs.PartLemmas.{abs-mul}

-- a factor above 0 is cancelled
pub cancel : (a b : ℤ) (k : ℕ) → 0 < k → a *ℤ pos k ≡ b *ℤ pos k → a ≡ b
cancel a b zero p h = absurd (omega arith)
cancel a b (suc k) p h = equal_is a b (scale_cmp a b k ∙ ap (λ z. int_cmp z (b *ℤ pos (suc k))) h ∙ tied_itself int_cmp_total (b *ℤ pos (suc k)))

sizes : (a c : ℤ) (b d : ℕ) → a *ℤ pos d ≡ c *ℤ pos b → unsigned_abs a * d ≡ unsigned_abs c * b
sizes a c b d h = sym (abs-mul a (pos d)) ∙ ap unsigned_abs h ∙ abs-mul c (pos b)

-- a denominator divides the other
divides : (m n b d : ℕ) → 0 < d → gcd m b ≡ 1 → m * d ≡ n * b → b ∣ d
divides m n b d p g h = dvd_other m d b p g (subst (λ k. b ∣ k) (sym h) (dvd-mul_left b n))

pub same_den : (a c : ℤ) (b d : ℕ) → IsReduced (record { num = a; den = b }) → IsReduced (record { num = c; den = d }) → a *ℤ pos d ≡ c *ℤ pos b → b ≡ d
same_den a c b d x y h =
    let e = sizes a c b d h in
    let one : b ≤ d = le_of_dvd y.0 (divides (unsigned_abs a) (unsigned_abs c) b d y.0 x.2 e) in
    let two : d ≤ b = le_of_dvd x.0 (divides (unsigned_abs c) (unsigned_abs a) d b x.0 y.2 (sym e)) in
    omega arith

pub one_worth : (x y : Fraction) → IsReduced x → IsReduced y → IsWorth x y.num (pos y.den) → x ≡ y
one_worth x y r s h =
    let dens = same_den x.num y.num x.den y.den r s h in
    let nums = cancel x.num y.num y.den s.0 (h ∙ ap (λ n. y.num *ℤ pos n) dens) in
    ap (λ n. record { num = n; den = x.den }) nums ∙ ap (λ n. record { num = y.num; den = n }) dens

divisor_is : (n : ℕ) → 0 < n → divisor n ≡ n
divisor_is zero p = absurd (omega arith)
divisor_is (suc n) p = refl

pub across_is : (x y : Fraction) → 0 < x.den → 0 < y.den → order_of x y ≡ int_cmp (x.num *ℤ pos y.den) (y.num *ℤ pos x.den)
across_is x y p q = ap (λ n. int_cmp (x.num *ℤ pos n) (y.num *ℤ pos (divisor x.den))) (divisor_is y.den q) ∙ ap (λ n. int_cmp (x.num *ℤ pos y.den) (y.num *ℤ pos n)) (divisor_is x.den p)

pub one_order : (x y : Fraction) → IsReduced x → IsReduced y → order_of x y ≡ Equal → x ≡ y
one_order x y r s h = one_worth x y r s (equal_is (x.num *ℤ pos y.den) (y.num *ℤ pos x.den) (sym (across_is x y r.0 s.0) ∙ h))
