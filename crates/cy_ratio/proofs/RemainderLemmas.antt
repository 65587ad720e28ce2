-- Remainders give the fractions' values, and are parts of the divisors.
use Rattle.std.proofs.Common.{◌≡◌, ℕ, zero, suc, ◌*◌, ◌/◌, ◌<◌, ℤ, pos, negsuc, neg_ℤ, ◌*ℤ◌, ◌-ℤ◌, unsigned_abs, int_div, [], ◌∷◌, Ok, sym, ap, ◌∙◌, subst, arith, ◌-◌, ◌%◌, ◌+ℤ◌}
use Rattle.std.proofs.Math.IntN.{*ℤ-negsuc, *ℤ_comm}
use Rattle.std.proofs.Math.Nat.{mul_comm}
use Rattle.cy_ratio.specs.Fraction.{Fraction, IsReduced, gcd, turned, reciprocal_of, quotient_of, product_of, difference_of, floor_of, remainder_of, and_then}
use Rattle.cy_ratio.specs.Value.{IsWorth, IsPart}
use Rattle.cy_ratio.specs.Order.{scale_assoc, one_more, none_at_all}
use Rattle.cy_ratio.proofs.PartLemmas.{positive_product}
use Rattle.cy_ratio.proofs.GcdLemmas.{div_positive}
use Rattle.cy_ratio.proofs.OneLemmas.{cancel}
use Rattle.cy_ratio.proofs.ValueLemmas.{passed, after, sub_scale, product_worth, difference_worth, add_scale, mul_scale, quotient_worth}
use Rattle.std.proofs.lemmas.Int.{ints}
use Rattle.std.specs.Int.{int_div_euclid}

-- a product's denominator is above 0
product_positive : (x y r : Fraction) → 0 < x.den → 0 < y.den → product_of x y ≡ Ok r → 0 < r.den
product_positive x y r p q h =
    let g = gcd (unsigned_abs x.num) y.den in
    let k = gcd (unsigned_abs y.num) x.den in
    let f : Fraction = record { num = int_div x.num (pos g) *ℤ int_div y.num (pos k); den = x.den / k * (y.den / g) } in
    let is : Ok f ≡ Ok r = passed (f.num ∷ pos f.den ∷ []) (Ok f) r h in
    let same : f ≡ r = cc in
    subst (λ z. 0 < z.den) same (positive_product (x.den / k) (y.den / g) (div_positive (unsigned_abs y.num) x.den p) (div_positive (unsigned_abs x.num) y.den q))

turned_positive : (c : ℤ) (d : ℕ) (r : Fraction) → turned c d ≡ Ok r → 0 < r.den
turned_positive (pos zero) d r h = absurd cc
turned_positive (pos (suc c)) d r h =
    let f : Fraction = record { num = pos d; den = suc c } in
    let is : Ok f ≡ Ok r = passed (pos d ∷ pos (suc c) ∷ []) (Ok f) r h in
    let same : f ≡ r = cc in
    subst (λ z. 0 < z.den) same (omega arith)
turned_positive (negsuc c) d r h =
    let f : Fraction = record { num = neg_ℤ (pos d); den = suc c } in
    let is : Ok f ≡ Ok r = passed (neg_ℤ (pos d) ∷ pos (suc c) ∷ []) (Ok f) r h in
    let same : f ≡ r = cc in
    subst (λ z. 0 < z.den) same (omega arith)

quotient_positive : (x y q : Fraction) → IsReduced x → quotient_of x y ≡ Ok q → 0 < q.den
quotient_positive x y q s h =
    let (t, is, k) = after (reciprocal_of y) (λ t. product_of x t) q h in
    product_positive x t q s.0 (turned_positive y.num y.den t is) k

shift : (a : ℤ) (j k : ℕ) → (a *ℤ pos j) *ℤ pos k ≡ (a *ℤ pos k) *ℤ pos j
shift a j k = scale_assoc a j k ∙ ap (λ n. a *ℤ pos n) (mul_comm j k) ∙ sym (scale_assoc a k j)

-- x - p is worth x - v / d, where p is worth v / d
less : (x p r : Fraction) (v : ℤ) (d : ℕ) → 0 < p.den → IsWorth p v (pos d) → IsWorth r ((x.num *ℤ pos p.den) -ℤ (p.num *ℤ pos x.den)) (pos (x.den * p.den)) →
    IsWorth r ((x.num *ℤ pos d) -ℤ (v *ℤ pos x.den)) (pos (x.den * d))
less x p r v d pos_den w h =
    let left = x.num *ℤ pos p.den in
    let right = p.num *ℤ pos x.den in
    let down = (x.num *ℤ pos d) -ℤ (v *ℤ pos x.den) in
    let dens : x.den * d * p.den ≡ x.den * p.den * d = omega arith in
    let one : (r.num *ℤ pos (x.den * d)) *ℤ pos p.den ≡ ((left -ℤ right) *ℤ pos r.den) *ℤ pos d
    = scale_assoc r.num (x.den * d) p.den ∙ ap (λ n. r.num *ℤ pos n) dens ∙ sym (scale_assoc r.num (x.den * p.den) d) ∙ ap (λ z. z *ℤ pos d) h in
    let two : right *ℤ pos d ≡ (v *ℤ pos x.den) *ℤ pos p.den = shift p.num x.den d ∙ ap (λ z. z *ℤ pos x.den) w ∙ shift v p.den x.den in
    let parts : (left -ℤ right) *ℤ pos d ≡ down *ℤ pos p.den
    = sub_scale left right d ∙ ap (λ z. z -ℤ (right *ℤ pos d)) (shift x.num p.den d) ∙ ap (λ z. ((x.num *ℤ pos d) *ℤ pos p.den) -ℤ z) two ∙ sym (sub_scale (x.num *ℤ pos d) (v *ℤ pos x.den) p.den) in
    cancel (r.num *ℤ pos (x.den * d)) (down *ℤ pos r.den) p.den pos_den
    (one ∙ shift (left -ℤ right) r.den d ∙ ap (λ z. z *ℤ pos r.den) parts ∙ shift down p.den r.den)

pub remainder_worth : (x y r : Fraction) → IsReduced x → IsReduced y → remainder_of x y ≡ Ok r →
    (q : Fraction) × (quotient_of x y ≡ Ok q) × IsWorth r ((x.num *ℤ pos y.den) -ℤ ((y.num *ℤ (floor_of q).num) *ℤ pos x.den)) (pos (x.den * y.den))
remainder_worth x y r p s h =
    let (q, is_q, rest) = after (quotient_of x y) (λ q. and_then (product_of y (floor_of q)) (λ t. difference_of x t)) r h in
    let (t, is_t, last) = after (product_of y (floor_of q)) (λ t. difference_of x t) r rest in
    let whole : y.den * 1 ≡ y.den = omega arith in
    let worth : IsWorth t (y.num *ℤ (floor_of q).num) (pos y.den) = subst (λ n. IsWorth t (y.num *ℤ (floor_of q).num) (pos n)) whole (product_worth y (floor_of q) t is_t) in
    (q, is_q, less x t r (y.num *ℤ (floor_of q).num) y.den (product_positive y (floor_of q) t s.0 (omega arith) is_t) worth (difference_worth x t r last))

-- ---- parts of the divisor
-- what is left of a number above the greatest multiple that isn't above it
floors : (z : ℤ) (b : ℕ) → 0 < b → (rest : ℕ) × (rest < b) × (z ≡ (int_div_euclid z (pos b) *ℤ pos b) +ℤ pos rest)
floors (pos a) b p = (a % b, omega arith, omega (arith, ints))
floors (negsuc a) b p = (b - 1 - a % b, omega arith, omega (arith, ints))

-- ---- products of three numbers
by_one : (x : ℤ) → x *ℤ pos 1 ≡ x
by_one x = omega (arith, ints, one_more x 0, none_at_all x)

one_part : (x y : ℤ) (h : ℕ) → x *ℤ (y *ℤ pos h) ≡ (x *ℤ y) *ℤ pos h
one_part x y h =
    let whole : 1 * h ≡ h = omega arith in
    ap (λ z. z *ℤ (y *ℤ pos h)) (sym (by_one x)) ∙ mul_scale x y 1 h ∙ ap (λ n. (x *ℤ y) *ℤ pos n) whole

negated_sum : (u v a b : ℤ) → a ≡ neg_ℤ u → b ≡ neg_ℤ v → neg_ℤ (u +ℤ v) ≡ a +ℤ b
negated_sum u v a b p q = omega (arith, ints)

spread : (u v y : ℤ) → (u +ℤ v) *ℤ y ≡ (u *ℤ y) +ℤ (v *ℤ y)
spread u v (pos n) = add_scale u v n
spread u v (negsuc n) = *ℤ-negsuc (u +ℤ v) n ∙ ap neg_ℤ (add_scale u v (suc n)) ∙ negated_sum (u *ℤ pos (suc n)) (v *ℤ pos (suc n)) (u *ℤ negsuc n) (v *ℤ negsuc n) (*ℤ-negsuc u n) (*ℤ-negsuc v n)

taken_away : (u v w : ℤ) → w ≡ u +ℤ v → w -ℤ u ≡ v
taken_away u v w h = omega (arith, ints)

-- q is a / (b * c), and f * s + rest is q's numerator: then a - c * f * b is worth c * rest * b / s
left : (a f c q : ℤ) (b s rest : ℕ) → q *ℤ (pos b *ℤ c) ≡ a *ℤ pos s → q ≡ (f *ℤ pos s) +ℤ pos rest →
    (a -ℤ ((c *ℤ f) *ℤ pos b)) *ℤ pos s ≡ (c *ℤ pos rest) *ℤ pos b
left a f c q b s rest w h =
    let parts : q *ℤ c ≡ ((c *ℤ f) *ℤ pos s) +ℤ (c *ℤ pos rest)
    = ap (λ z. z *ℤ c) h ∙ spread (f *ℤ pos s) (pos rest) c ∙ ap (λ z. z +ℤ (pos rest *ℤ c)) (*ℤ_comm (f *ℤ pos s) c ∙ one_part c f s) ∙ ap (λ z. ((c *ℤ f) *ℤ pos s) +ℤ z) (*ℤ_comm (pos rest) c) in
    let whole : a *ℤ pos s ≡ (((c *ℤ f) *ℤ pos b) *ℤ pos s) +ℤ ((c *ℤ pos rest) *ℤ pos b)
    = sym w ∙ ap (λ z. q *ℤ z) (*ℤ_comm (pos b) c) ∙ one_part q c b ∙ ap (λ z. z *ℤ pos b) parts ∙ add_scale ((c *ℤ f) *ℤ pos s) (c *ℤ pos rest) b ∙ ap (λ z. z +ℤ ((c *ℤ pos rest) *ℤ pos b)) (shift (c *ℤ f) s b) in
    sub_scale a ((c *ℤ f) *ℤ pos b) s ∙ taken_away (((c *ℤ f) *ℤ pos b) *ℤ pos s) ((c *ℤ pos rest) *ℤ pos b) (a *ℤ pos s) whole

-- r * (b * d) is k times what is left, and s of it are c * rest * b
joined : (r down c : ℤ) (b d k s rest : ℕ) → 0 < b → r *ℤ pos (b * d) ≡ down *ℤ pos k → down *ℤ pos s ≡ (c *ℤ pos rest) *ℤ pos b →
    r *ℤ pos (d * s) ≡ (c *ℤ pos rest) *ℤ pos k
joined r down c b d k s rest p h e =
    let dens : d * s * b ≡ b * d * s = omega arith in
    cancel (r *ℤ pos (d * s)) ((c *ℤ pos rest) *ℤ pos k) b p
    (scale_assoc r (d * s) b ∙ ap (λ n. r *ℤ pos n) dens ∙ sym (scale_assoc r (b * d) s) ∙ ap (λ z. z *ℤ pos s) h ∙ shift down k s ∙ ap (λ z. z *ℤ pos k) e ∙ shift (c *ℤ pos rest) b k)

pub remainder_part : (x y r : Fraction) → IsReduced x → IsReduced y → remainder_of x y ≡ Ok r → IsPart r y
remainder_part x y r s t h =
    let (q, is_q, worth) = remainder_worth x y r s t h in
    let (rest, below, parts) = floors q.num q.den (quotient_positive x y q s is_q) in
    let down = (x.num *ℤ pos y.den) -ℤ ((y.num *ℤ (floor_of q).num) *ℤ pos x.den) in
    record {
      part = rest;
      whole = q.den;
      below = below;
      share = joined r.num down y.num x.den y.den r.den q.den rest s.0 worth (left (x.num *ℤ pos y.den) (floor_of q).num y.num q.num x.den q.den rest (quotient_worth x y q is_q) parts);
    }
