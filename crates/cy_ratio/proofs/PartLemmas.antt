-- The named numbers of the operations, and the lowest terms of what they give.
use Rattle.std.proofs.Common.{◌≡◌, ℕ, zero, suc, ◌*◌, ◌/◌, ◌<◌, ◌^◌, ℤ, pos, negsuc, neg_ℤ, ◌*ℤ◌, ◌+ℤ◌, ◌-ℤ◌, unsigned_abs, int_div, Bool, true, false, [], ◌∷◌, Result, Ok, Err, if◌then◌else◌, refl, sym, ap, ◌∙◌, subst, arith}
use Rattle.std.specs.Int.{◌∣◌}
use Rattle.std.proofs.Math.Nat.{div-mul_cancel, dvd-mul_right}
use Rattle.cy_ratio.specs.Fraction.{Fraction, IsReduced, gcd, named, fits, signed, where_fit, fraction_of, sum_of, difference_of, product_of, within}
use Rattle.cy_ratio.specs.declared.RatioError.{RatioError}
use Rattle.cy_ratio.specs.declared.RatioError.TheVariants.{Range}
use Rattle.cy_ratio.proofs.GcdLemmas.{gcd_comm, gcd-mul, gcd_of_dvd, gcd-div, div_positive, gcd_positive, gcd_at_most, IsGcd-gcd}

-- the two answers of a test, with their types
abbrev pub accepted : {A : Type 0} → A → Result A RatioError
accepted x = Ok x

abbrev pub refusal : {A : Type 0} → Result A RatioError
refusal = Err Range

-- a denominator that fits
abbrev pub kept : ℕ → Result ℕ RatioError
kept n = if fits (pos n) then Ok n else Err Range

pub named_value : (z v : ℤ) → named z ≡ Ok v → (fits z ≡ true) × (v ≡ z)
named_value z v h = by_test (fits z) refl
  where
    by_test : (b : Bool) → fits z ≡ b → (fits z ≡ true) × (v ≡ z)
    by_test true e = (e, let k : accepted z ≡ Ok v = rw e at h in cc)
    by_test false e = let k : refusal {A = ℤ} ≡ Ok v = rw e at h in cc

pub kept_value : (n m : ℕ) → kept n ≡ Ok m → (fits (pos n) ≡ true) × (m ≡ n) × (n < 2 ^ 127)
kept_value n m h = by_test (fits (pos n)) refl
  where
    by_test : (b : Bool) → fits (pos n) ≡ b → (fits (pos n) ≡ true) × (m ≡ n) × (n < 2 ^ 127)
    by_test true e = (e, (let k : accepted n ≡ Ok m = rw e at h in cc), grind arith)
    by_test false e = let k : refusal {A = ℕ} ≡ Ok m = rw e at h in cc

-- four numbers that fit leave the answer
four_fit : (w x y z : ℤ) (answer : Result Fraction RatioError) → fits w ≡ true → fits x ≡ true → fits y ≡ true → fits z ≡ true → where_fit (w ∷ x ∷ y ∷ z ∷ []) answer ≡ answer
four_fit w x y z answer a b c d = rw (a, b, c, d) refl

pub sum_parts : (a c : ℤ) (b d g : ℕ) (left right above : ℤ) (below : ℕ) → g ≡ gcd b d → named (a *ℤ pos (d / g)) ≡ Ok left → named (c *ℤ pos (b / g)) ≡ Ok right → named (left +ℤ right) ≡ Ok above → kept (b * (d / g)) ≡ Ok below → fraction_of above (pos below) ≡ sum_of (record { num = a; den = b }) (record { num = c; den = d })
sum_parts a c b d g left right above below is x y s m =
    let l = named_value (a *ℤ pos (d / g)) left x in
    let r = named_value (c *ℤ pos (b / g)) right y in
    let t = named_value (left +ℤ right) above s in
    let k = kept_value (b * (d / g)) below m in
    let whole : above ≡ (a *ℤ pos (d / g)) +ℤ (c *ℤ pos (b / g)) = t.1 ∙ ap (λ v. v +ℤ right) l.1 ∙ ap (λ v. (a *ℤ pos (d / g)) +ℤ v) r.1 in
    subst (λ n. fraction_of above (pos below) ≡ where_fit ((a *ℤ pos (d / n)) ∷ (c *ℤ pos (b / n)) ∷ ((a *ℤ pos (d / n)) +ℤ (c *ℤ pos (b / n))) ∷ pos (b * (d / n)) ∷ []) (fraction_of ((a *ℤ pos (d / n)) +ℤ (c *ℤ pos (b / n))) (pos (b * (d / n))))) is
    (ap (λ v. fraction_of v (pos below)) whole ∙ ap (λ n. fraction_of ((a *ℤ pos (d / g)) +ℤ (c *ℤ pos (b / g))) (pos n)) k.1
    ∙ sym (four_fit (a *ℤ pos (d / g)) (c *ℤ pos (b / g)) ((a *ℤ pos (d / g)) +ℤ (c *ℤ pos (b / g))) (pos (b * (d / g))) (fraction_of ((a *ℤ pos (d / g)) +ℤ (c *ℤ pos (b / g))) (pos (b * (d / g)))) l.0 r.0 (subst (λ v. fits v ≡ true) (sym t.1 ∙ whole) t.0) k.0))

pub difference_parts : (a c : ℤ) (b d g : ℕ) (left right above : ℤ) (below : ℕ) → g ≡ gcd b d → named (a *ℤ pos (d / g)) ≡ Ok left → named (c *ℤ pos (b / g)) ≡ Ok right → named (left -ℤ right) ≡ Ok above → kept (b * (d / g)) ≡ Ok below → fraction_of above (pos below) ≡ difference_of (record { num = a; den = b }) (record { num = c; den = d })
difference_parts a c b d g left right above below is x y s m =
    let l = named_value (a *ℤ pos (d / g)) left x in
    let r = named_value (c *ℤ pos (b / g)) right y in
    let t = named_value (left -ℤ right) above s in
    let k = kept_value (b * (d / g)) below m in
    let whole : above ≡ (a *ℤ pos (d / g)) -ℤ (c *ℤ pos (b / g)) = t.1 ∙ ap (λ v. v -ℤ right) l.1 ∙ ap (λ v. (a *ℤ pos (d / g)) -ℤ v) r.1 in
    subst (λ n. fraction_of above (pos below) ≡ where_fit ((a *ℤ pos (d / n)) ∷ (c *ℤ pos (b / n)) ∷ ((a *ℤ pos (d / n)) -ℤ (c *ℤ pos (b / n))) ∷ pos (b * (d / n)) ∷ []) (fraction_of ((a *ℤ pos (d / n)) -ℤ (c *ℤ pos (b / n))) (pos (b * (d / n))))) is
    (ap (λ v. fraction_of v (pos below)) whole ∙ ap (λ n. fraction_of ((a *ℤ pos (d / g)) -ℤ (c *ℤ pos (b / g))) (pos n)) k.1
    ∙ sym (four_fit (a *ℤ pos (d / g)) (c *ℤ pos (b / g)) ((a *ℤ pos (d / g)) -ℤ (c *ℤ pos (b / g))) (pos (b * (d / g))) (fraction_of ((a *ℤ pos (d / g)) -ℤ (c *ℤ pos (b / g))) (pos (b * (d / g)))) l.0 r.0 (subst (λ v. fits v ≡ true) (sym t.1 ∙ whole) t.0) k.0))

abs_neg : (n : ℕ) → unsigned_abs (neg_ℤ (pos n)) ≡ n
abs_neg zero = refl
abs_neg (suc n) = refl

abs_signed : (s : Bool) (n : ℕ) → unsigned_abs (signed s n) ≡ n
abs_signed true n = abs_neg n
abs_signed false n = refl

abs_div : (n : ℤ) (g : ℕ) → unsigned_abs (int_div n (pos g)) ≡ unsigned_abs n / g
abs_div (pos m) g = refl
abs_div (negsuc m) g = abs_neg (suc m / g)

pub abs-mul : (x y : ℤ) → unsigned_abs (x *ℤ y) ≡ unsigned_abs x * unsigned_abs y
abs-mul (pos a) (pos b) = refl
abs-mul (pos a) (negsuc b) = abs_neg (a * suc b)
abs-mul (negsuc a) (pos b) = abs_neg (suc a * b)
abs-mul (negsuc a) (negsuc b) = refl

-- what is left of two sizes by their divisor is in lowest terms
pub reduced : (a b q k : ℕ) (s : Bool) (v : ℤ) (m : ℕ) (r : Result ℤ RatioError) (t : Result ℕ RatioError) → 0 < b → q ≡ a / gcd a b → k ≡ b / gcd a b → r ≡ named (signed s q) → r ≡ Ok v → t ≡ kept k → t ≡ Ok m → IsReduced (record { num = v; den = m })
reduced a b q k s v m r t p is_q is_k rn rv tk tm =
    let n = named_value (signed s q) v (sym rn ∙ rv) in
    let d = kept_value k m (sym tk ∙ tm) in
    let size : unsigned_abs v ≡ a / gcd a b = ap unsigned_abs n.1 ∙ abs_signed s q ∙ is_q in
    let below : m ≡ b / gcd a b = d.1 ∙ is_k in (
      subst (λ w. 0 < w) (sym below) (div_positive a b p),
      subst (λ w. w < 2 ^ 127) (sym d.1) d.2,
      ap (λ w. gcd w m) size ∙ ap (gcd (a / gcd a b)) below ∙ gcd-div a b p,
    )

-- so is a reciprocal
pub reciprocal_reduced : (c d : ℕ) (s : Bool) (v : ℤ) (m : ℕ) (r : Result ℤ RatioError) (t : Result ℕ RatioError) → 0 < c → gcd c d ≡ 1 → r ≡ named (signed s d) → r ≡ Ok v → t ≡ kept c → t ≡ Ok m → IsReduced (record { num = v; den = m })
reciprocal_reduced c d s v m r t p e rn rv tk tm =
    let n = named_value (signed s d) v (sym rn ∙ rv) in
    let k = kept_value c m (sym tk ∙ tm) in (
      subst (λ w. 0 < w) (sym k.1) p,
      subst (λ w. w < 2 ^ 127) (sym k.1) k.2,
      ap (λ w. gcd w m) (ap unsigned_abs n.1 ∙ abs_signed s d) ∙ ap (gcd d) k.1 ∙ gcd_comm d c ∙ e,
    )

quotient_dvd : (a g : ℕ) → g ∣ a → a / g ∣ a
quotient_dvd a g d = subst (λ n. a / g ∣ n) (div-mul_cancel g d) (dvd-mul_right (a / g) g)

-- two by two without a common divisor
pub across : (a b c d : ℕ) → gcd a b ≡ 1 → gcd a d ≡ 1 → gcd c b ≡ 1 → gcd c d ≡ 1 → gcd (a * c) (b * d) ≡ 1
across a b c d ab ad cb cd =
    gcd-mul a c (b * d)
    (gcd_comm a (b * d) ∙ gcd-mul b d a (gcd_comm b a ∙ ab) (gcd_comm d a ∙ ad))
    (gcd_comm c (b * d) ∙ gcd-mul b d c (gcd_comm b c ∙ cb) (gcd_comm d c ∙ cd))

pub positive_product : (m n : ℕ) → 0 < m → 0 < n → 0 < m * n
positive_product (suc m) (suc n) p q = omega arith
positive_product zero n p q = absurd (omega arith)
positive_product (suc m) zero p q = absurd (omega arith)

-- so is a product of what is left across
pub product_reduced : (a c : ℤ) (b d g h : ℕ) (v : ℤ) (m : ℕ) → IsReduced (record { num = a; den = b }) → IsReduced (record { num = c; den = d }) → g ≡ gcd (unsigned_abs a) d → h ≡ gcd (unsigned_abs c) b → named (int_div a (pos g) *ℤ int_div c (pos h)) ≡ Ok v → kept (b / h * (d / g)) ≡ Ok m → IsReduced (record { num = v; den = m })
product_reduced a c b d g h v m left right is_g is_h x y =
    let n = named_value (int_div a (pos g) *ℤ int_div c (pos h)) v x in
    let k = kept_value (b / h * (d / g)) m y in
    let A = unsigned_abs a in
    let C = unsigned_abs c in
    let by_g = IsGcd-gcd A d in
    let by_h = IsGcd-gcd C b in
    let size : unsigned_abs v ≡ A / gcd A d * (C / gcd C b) = ap unsigned_abs n.1 ∙ abs-mul (int_div a (pos g)) (int_div c (pos h)) ∙ ap (λ w. w * unsigned_abs (int_div c (pos h))) (abs_div a g ∙ ap (λ w. A / w) is_g) ∙ ap (λ w. A / gcd A d * w) (abs_div c h ∙ ap (λ w. C / w) is_h) in
    let below : m ≡ b / gcd C b * (d / gcd A d) = k.1 ∙ ap (λ w. b / w * (d / g)) is_h ∙ ap (λ w. b / gcd C b * (d / w)) is_g in (
      subst (λ w. 0 < w) (sym below) (positive_product (b / gcd C b) (d / gcd A d) (div_positive C b left.0) (div_positive A d right.0)),
      subst (λ w. w < 2 ^ 127) (sym k.1) k.2,
      ap (λ w. gcd w m) size ∙ ap (gcd (A / gcd A d * (C / gcd C b))) below
          ∙ across (A / gcd A d) (b / gcd C b) (C / gcd C b) (d / gcd A d)
          (gcd_of_dvd A b (A / gcd A d) (b / gcd C b) left.2 (quotient_dvd A (gcd A d) by_g.0) (quotient_dvd b (gcd C b) by_h.1))
          (gcd-div A d right.0)
          (gcd-div C b left.0)
          (gcd_of_dvd C d (C / gcd C b) (d / gcd A d) right.2 (quotient_dvd C (gcd C b) by_h.0) (quotient_dvd d (gcd A d) by_g.1)),
    )

pub product_parts : (a c : ℤ) (b d g h : ℕ) (v : ℤ) (m : ℕ) → g ≡ gcd (unsigned_abs a) d → h ≡ gcd (unsigned_abs c) b → named (int_div a (pos g) *ℤ int_div c (pos h)) ≡ Ok v → kept (b / h * (d / g)) ≡ Ok m → Ok (record { num = v; den = m }) ≡ product_of (record { num = a; den = b }) (record { num = c; den = d })
product_parts a c b d g h v m is_g is_h x y =
    let n = named_value (int_div a (pos g) *ℤ int_div c (pos h)) v x in
    let k = kept_value (b / h * (d / g)) m y in
    let f : ℕ → ℕ → Fraction = λ i j. record { num = int_div a (pos i) *ℤ int_div c (pos j); den = b / j * (d / i) } in
    let is : within (f g h) ≡ Ok (f g h) = rw (n.0, k.0) refl in
    let same : f g h ≡ record { num = v; den = m } = ap (λ z. record { num = z; den = b / h * (d / g) }) (sym n.1) ∙ ap (λ z. record { num = v; den = z }) (sym k.1) in
    ap (λ z. Ok z) (sym same) ∙ sym is ∙ ap (λ i. within (f i h)) is_g ∙ ap (λ j. within (f (gcd (unsigned_abs a) d) j)) is_h

pub gcd-one : (n : ℕ) → gcd n 1 ≡ 1
gcd-one n = omega (arith, gcd_positive n 1 (omega arith), gcd_at_most n 1 (omega arith))
