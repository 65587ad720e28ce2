-- The operations give the fractions' values.
use Rattle.std.proofs.Common.{◌≡◌, ℕ, zero, suc, ◌*◌, ◌/◌, ℤ, pos, negsuc, neg_ℤ, ◌*ℤ◌, ◌+ℤ◌, ◌-ℤ◌, unsigned_abs, int_div, Bool, true, false, List, [], ◌∷◌, Result, Ok, Err, refl, sym, ap, ◌∙◌, subst, arith}
use Rattle.std.specs.Int.{◌∣◌}
use Rattle.std.proofs.lemmas.Int.{ints}
use Rattle.std.proofs.Math.IntN.{*ℤ-zero, *ℤ-negsuc, neg_ℤ-neg_ℤ}
use Rattle.std.proofs.Math.Nat.{mul_assoc, mul_comm, div-mul_cancel}
use Rattle.cy_ratio.specs.Fraction.{Fraction, gcd, fits, where_fit, lowest, negated, fraction_of, sum_of, difference_of, product_of, reciprocal_of, turned, quotient_of, and_then}
use Rattle.cy_ratio.specs.Value.{IsWorth}
use Rattle.cy_ratio.specs.Order.{neg_scale, scale_assoc, one_more, none_at_all}
use Rattle.cy_ratio.specs.declared.RatioError.{RatioError}
use Rattle.cy_ratio.proofs.PartLemmas.{refusal}
use Rattle.cy_ratio.proofs.GcdLemmas.{IsGcd-gcd}

back : (n : ℤ) (g : ℕ) → g ∣ unsigned_abs n → int_div n (pos g) *ℤ pos g ≡ n
back (pos m) g d = ap pos (div-mul_cancel g d)
back (negsuc m) g d = neg_scale (suc m / g) g ∙ ap (λ n. neg_ℤ (pos n)) (div-mul_cancel g d)

pub add_scale : (x y : ℤ) (g : ℕ) → (x +ℤ y) *ℤ pos g ≡ (x *ℤ pos g) +ℤ (y *ℤ pos g)
add_scale x y zero = omega (arith, ints, none_at_all x, none_at_all y, none_at_all (x +ℤ y))
add_scale x y (suc g) = omega (arith, ints, one_more x g, one_more y g, one_more (x +ℤ y) g, add_scale x y g)

pub sub_scale : (x y : ℤ) (g : ℕ) → (x -ℤ y) *ℤ pos g ≡ (x *ℤ pos g) -ℤ (y *ℤ pos g)
sub_scale x y zero = omega (arith, ints, none_at_all x, none_at_all y, none_at_all (x -ℤ y))
sub_scale x y (suc g) = omega (arith, ints, one_more x g, one_more y g, one_more (x -ℤ y) g, sub_scale x y g)

-- numbers that fit don't change the answer
pub passed : (named : List ℤ) (answer : Result Fraction RatioError) (r : Fraction) → where_fit named answer ≡ Ok r → answer ≡ Ok r
passed [] answer r h = h
passed (z ∷ named) answer r h = by_test (fits z) refl (passed named answer r)
  where
    by_test : (b : Bool) → fits z ≡ b → (where_fit named answer ≡ Ok r → answer ≡ Ok r) → answer ≡ Ok r
    by_test true e rest = let k : where_fit named answer ≡ Ok r = rw e at h in rest k
    by_test false e rest = let k : refusal {A = Fraction} ≡ Ok r = rw e at h in cc

lowest_worth : (n : ℤ) (d : ℕ) → IsWorth (lowest n d) n (pos d)
lowest_worth n d =
    let g = gcd (unsigned_abs n) d in
    let h = IsGcd-gcd (unsigned_abs n) d in
    ap (λ k. int_div n (pos g) *ℤ pos k) (sym (div-mul_cancel g h.1) ∙ mul_comm (d / g) g) ∙ sym (scale_assoc (int_div n (pos g)) g (d / g)) ∙ ap (λ z. z *ℤ pos (d / g)) (back n g h.0)

pub neg_times : (x : ℤ) (k : ℕ) → neg_ℤ x *ℤ pos k ≡ neg_ℤ (x *ℤ pos k)
neg_times (pos n) k = neg_scale n k
neg_times (negsuc n) k = sym (neg_ℤ-neg_ℤ (pos (suc n * k))) ∙ ap neg_ℤ (neg_scale (suc n) k)

times_neg : (x : ℤ) (k : ℕ) → x *ℤ neg_ℤ (pos k) ≡ neg_ℤ (x *ℤ pos k)
times_neg x zero = *ℤ-zero x ∙ ap neg_ℤ (sym (*ℤ-zero x))
times_neg x (suc k) = *ℤ-negsuc x k

pub fraction_worth : (n d : ℤ) (r : Fraction) → fraction_of n d ≡ Ok r → IsWorth r n d
fraction_worth n (pos zero) r h = cc
fraction_worth n (pos (suc d)) r h =
    let f = lowest n (suc d) in
    let k : Ok f ≡ Ok r = passed (f.num ∷ pos f.den ∷ []) (Ok f) r h in
    let same : f ≡ r = cc in
    subst (λ x. IsWorth x n (pos (suc d))) same (lowest_worth n (suc d))
fraction_worth n (negsuc d) r h =
    let f = lowest n (suc d) in
    let g = negated f in
    let k : Ok g ≡ Ok r = passed (g.num ∷ pos g.den ∷ []) (Ok g) r h in
    let same : g ≡ r = cc in
    let is : neg_ℤ f.num *ℤ negsuc d ≡ n *ℤ pos f.den = *ℤ-negsuc (neg_ℤ f.num) d ∙ ap neg_ℤ (neg_times f.num (suc d)) ∙ neg_ℤ-neg_ℤ (f.num *ℤ pos (suc d)) ∙ lowest_worth n (suc d) in
    subst (λ x. IsWorth x n (negsuc d)) same is

-- a value over a part of a denominator, brought to the whole
widened : (r : Fraction) (above : ℤ) (below g : ℕ) → IsWorth r above (pos below) → r.num *ℤ pos (below * g) ≡ (above *ℤ pos g) *ℤ pos r.den
widened r above below g h =
    sym (scale_assoc r.num below g) ∙ ap (λ z. z *ℤ pos g) h ∙ scale_assoc above r.den g ∙ ap (λ n. above *ℤ pos n) (mul_comm r.den g) ∙ sym (scale_assoc above g r.den)

whole : (b d g : ℕ) → g ∣ d → b * (d / g) * g ≡ b * d
whole b d g h = mul_assoc b (d / g) g ∙ ap (λ n. b * n) (div-mul_cancel g h)

share : (a : ℤ) (d g : ℕ) → g ∣ d → (a *ℤ pos (d / g)) *ℤ pos g ≡ a *ℤ pos d
share a d g h = scale_assoc a (d / g) g ∙ ap (λ n. a *ℤ pos n) (div-mul_cancel g h)

pub sum_worth : (x y r : Fraction) → sum_of x y ≡ Ok r → IsWorth r ((x.num *ℤ pos y.den) +ℤ (y.num *ℤ pos x.den)) (pos (x.den * y.den))
sum_worth x y r h =
    let g = gcd x.den y.den in
    let d = IsGcd-gcd x.den y.den in
    let left = x.num *ℤ pos (y.den / g) in
    let right = y.num *ℤ pos (x.den / g) in
    let below = x.den * (y.den / g) in
    let k = fraction_worth (left +ℤ right) (pos below) r (passed (left ∷ right ∷ (left +ℤ right) ∷ pos below ∷ []) (fraction_of (left +ℤ right) (pos below)) r h) in
    let parts : (left +ℤ right) *ℤ pos g ≡ (x.num *ℤ pos y.den) +ℤ (y.num *ℤ pos x.den) = add_scale left right g ∙ ap (λ z. z +ℤ (right *ℤ pos g)) (share x.num y.den g d.1) ∙ ap (λ z. (x.num *ℤ pos y.den) +ℤ z) (share y.num x.den g d.0) in
    ap (λ n. r.num *ℤ pos n) (sym (whole x.den y.den g d.1)) ∙ widened r (left +ℤ right) below g k ∙ ap (λ z. z *ℤ pos r.den) parts

pub difference_worth : (x y r : Fraction) → difference_of x y ≡ Ok r → IsWorth r ((x.num *ℤ pos y.den) -ℤ (y.num *ℤ pos x.den)) (pos (x.den * y.den))
difference_worth x y r h =
    let g = gcd x.den y.den in
    let d = IsGcd-gcd x.den y.den in
    let left = x.num *ℤ pos (y.den / g) in
    let right = y.num *ℤ pos (x.den / g) in
    let below = x.den * (y.den / g) in
    let k = fraction_worth (left -ℤ right) (pos below) r (passed (left ∷ right ∷ (left -ℤ right) ∷ pos below ∷ []) (fraction_of (left -ℤ right) (pos below)) r h) in
    let parts : (left -ℤ right) *ℤ pos g ≡ (x.num *ℤ pos y.den) -ℤ (y.num *ℤ pos x.den) = sub_scale left right g ∙ ap (λ z. z -ℤ (right *ℤ pos g)) (share x.num y.den g d.1) ∙ ap (λ z. (x.num *ℤ pos y.den) -ℤ z) (share y.num x.den g d.0) in
    ap (λ n. r.num *ℤ pos n) (sym (whole x.den y.den g d.1)) ∙ widened r (left -ℤ right) below g k ∙ ap (λ z. z *ℤ pos r.den) parts

crossed : (m g n h : ℕ) → m * g * (n * h) ≡ m * n * (g * h)
crossed m g n h = omega arith

pub mul_scale : (x y : ℤ) (g h : ℕ) → (x *ℤ pos g) *ℤ (y *ℤ pos h) ≡ (x *ℤ y) *ℤ pos (g * h)
mul_scale (pos m) (pos n) g h = ap pos (crossed m g n h)
mul_scale (pos m) (negsuc n) g h = times_neg (pos (m * g)) (suc n * h) ∙ ap (λ k. neg_ℤ (pos k)) (crossed m g (suc n) h) ∙ sym (neg_scale (m * suc n) (g * h))
mul_scale (negsuc m) (pos n) g h = neg_scale (suc m * g) (n * h) ∙ ap (λ k. neg_ℤ (pos k)) (crossed (suc m) g n h) ∙ sym (neg_scale (suc m * n) (g * h))
mul_scale (negsuc m) (negsuc n) g h = times_neg (neg_ℤ (pos (suc m * g))) (suc n * h) ∙ ap neg_ℤ (neg_scale (suc m * g) (suc n * h)) ∙ neg_ℤ-neg_ℤ (pos (suc m * g * (suc n * h))) ∙ ap pos (crossed (suc m) g (suc n) h)

pub product_worth : (x y r : Fraction) → product_of x y ≡ Ok r → IsWorth r (x.num *ℤ y.num) (pos (x.den * y.den))
product_worth x y r h =
    let g = gcd (unsigned_abs x.num) y.den in
    let k = gcd (unsigned_abs y.num) x.den in
    let by_g = IsGcd-gcd (unsigned_abs x.num) y.den in
    let by_k = IsGcd-gcd (unsigned_abs y.num) x.den in
    let above = int_div x.num (pos g) *ℤ int_div y.num (pos k) in
    let below = x.den / k * (y.den / g) in
    let f : Fraction = record { num = above; den = below } in
    let is : Ok f ≡ Ok r = passed (above ∷ pos below ∷ []) (Ok f) r h in
    let same : f ≡ r = cc in
    let dens : x.den * y.den ≡ g * k * below = sym (ap (λ n. n * y.den) (div-mul_cancel k by_k.1)) ∙ sym (ap (λ n. x.den / k * k * n) (div-mul_cancel g by_g.1)) ∙ regroup (x.den / k) k (y.den / g) g in
    let nums : above *ℤ pos (g * k) ≡ x.num *ℤ y.num = sym (mul_scale (int_div x.num (pos g)) (int_div y.num (pos k)) g k) ∙ ap (λ z. z *ℤ (int_div y.num (pos k) *ℤ pos k)) (back x.num g by_g.0) ∙ ap (λ z. x.num *ℤ z) (back y.num k by_k.0) in
    let worth : IsWorth f (x.num *ℤ y.num) (pos (x.den * y.den)) = ap (λ n. above *ℤ pos n) dens ∙ sym (scale_assoc above (g * k) below) ∙ ap (λ z. z *ℤ pos below) nums in
    subst (λ z. IsWorth z (x.num *ℤ y.num) (pos (x.den * y.den))) same worth
  where
    regroup : (a k b g : ℕ) → a * k * (b * g) ≡ g * k * (a * b)
    regroup a k b g = omega arith

pub after : (p : Result Fraction RatioError) (next : Fraction → Result Fraction RatioError) (r : Fraction) → and_then p next ≡ Ok r → (t : Fraction) × (p ≡ Ok t) × (next t ≡ Ok r)
after (Ok t) next r h = (t, refl, h)
after (Err e) next r h = absurd (let k : Err e ≡ Ok r = h in cc)

over : (x : Fraction) (c : ℤ) (d : ℕ) (t r : Fraction) → turned c d ≡ Ok t → product_of x t ≡ Ok r → IsWorth r (x.num *ℤ pos d) (pos x.den *ℤ c)
over x (pos zero) d t r h k = cc
over x (pos (suc c)) d t r h k =
    let f : Fraction = record { num = pos d; den = suc c } in
    let is : Ok f ≡ Ok t = passed (pos d ∷ pos (suc c) ∷ []) (Ok f) t h in
    let same : t ≡ f = cc in
    subst (λ z. IsWorth r (x.num *ℤ z.num) (pos (x.den * z.den))) same (product_worth x t r k)
over x (negsuc c) d t r h k =
    let f : Fraction = record { num = neg_ℤ (pos d); den = suc c } in
    let is : Ok f ≡ Ok t = passed (neg_ℤ (pos d) ∷ pos (suc c) ∷ []) (Ok f) t h in
    let same : t ≡ f = cc in
    let worth : r.num *ℤ pos (x.den * suc c) ≡ (x.num *ℤ neg_ℤ (pos d)) *ℤ pos r.den = subst (λ z. IsWorth r (x.num *ℤ z.num) (pos (x.den * z.den))) same (product_worth x t r k) in
    times_neg r.num (x.den * suc c) ∙ ap neg_ℤ (worth ∙ ap (λ z. z *ℤ pos r.den) (times_neg x.num d) ∙ neg_times (x.num *ℤ pos d) r.den) ∙ neg_ℤ-neg_ℤ ((x.num *ℤ pos d) *ℤ pos r.den)

pub quotient_worth : (x y r : Fraction) → quotient_of x y ≡ Ok r → IsWorth r (x.num *ℤ pos y.den) (pos x.den *ℤ y.num)
quotient_worth x y r h = let (t, is, k) = after (reciprocal_of y) (λ t. product_of x t) r h in over x y.num y.den t r is k
