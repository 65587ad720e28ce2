-- Whole numbers to which another is added.
use Rattle.std.proofs.Common.{◌≡◌, ◌⊎◌, inl, inr, ℕ, ◌-◌, ◌<◌, ◌≤◌, ℤ, pos, neg_ℤ, ◌+ℤ◌, ◌-ℤ◌, ◌*ℤ◌, FitsSigned, Bool, true, false, cond, ◌==◌, eqb-true, Option, Some, None, SomeIff, IfSome, List, [], ◌∷◌, length, get_or, take, ◌+◌, ◌++◌, Result, Ok, refl, sym, ap, ◌∙◌, subst, arith, Less}
use Rattle.std.proofs.Math.IntN.{*ℤ-one, one}
use Rattle.std.proofs.lemmas.Int.{ints}
use Rattle.std.proofs.lemmas.List.{get_or-map, length-map, map-append, take_more}
use Rattle.std.proofs.lemmas.List.Elements.{All-head, All-tail}
use Rattle.std.specs.Cmp.{int_cmp_is, int_ranks}
use Rattle.std.specs.Int.{w128}
use Rattle.std.specs.Ordering.{int_cmp, MatchOrdering}
use Rattle.cy_ratio.specs.Fraction.{Fraction, sum_of, difference_of, gcd, divisor_by}
use Rattle.cy_ratio.specs.declared.RatioError.{RatioError}
use Rattle.cy_ratio.proofs.WholeLemmas.{whole_fraction, fits_is}
use Rattle.const_expr.specs.declared.constant.Const.{Const}
use Rattle.const_expr.specs.declared.constant.Const.TheVariants as c
use Rattle.const_expr.specs.declared.constant.Const.TheOpen as o
use Rattle.const_expr.specs.declared.operator.Arithmetic.{Arithmetic}
use Rattle.const_expr.specs.declared.operator.Arithmetic.TheVariants as sign
use Rattle.const_expr.specs.Binary.{calculated, on_each, on_number, on_numbers}
use Rattle.const_expr.specs.declared.why.Why.{Why}
use Rattle.const_expr.specs.Constants.{whole, whole_of, number_of, const_order, gathered, IsAscending, IsConst}
use Rattle.const_expr.specs.Refusals.{and_then}
use Rattle.const_expr.specs.Shifts.{wholes, moved, Ascend, Fit, IsMoved, IsShift}
use Rattle.const_expr.proofs.Layers.{number_layer}
use Rattle.const_expr.proofs.CompareLemmas.{number_order}
use Rattle.const_expr.proofs.Keeps.{set_keeps}
use Rattle.const_expr.proofs.SetLemmas.{side}
use Rattle.const_expr.proofs.SetChanges.{set_of_ascending}
use lib.Signed.{◌<ℤ◌, ◌≤ℤ◌}

-- ---- how far numbers reach
moved_at : (zs : List ℤ) (k d : ℤ) (i : ℕ) → i < length zs → get_or (moved k zs) i d ≡ get_or zs i d +ℤ k
moved_at zs k d i lt = get_or-map (λ z. z +ℤ k) zs i d d lt

no_more : (zs : List ℤ) (d : ℤ) (i j : ℕ) → Ascend zs → i ≤ j → j < length zs → get_or zs i d ≤ℤ get_or zs j d
no_more zs d i j asc le lt = by (side i j)
  where
    by : (i < j) ⊎ (j ≤ i) → get_or zs i d ≤ℤ get_or zs j d
    by (inl lower) = omega (arith, ints, asc i j d lower lt)
    by (inr upper) = let same : i ≡ j = omega arith in let e = ap (λ n. get_or zs n d) same in omega (arith, ints, e)

between : (a k b z : ℤ) → FitsSigned w128 (a +ℤ k) → FitsSigned w128 (b +ℤ k) → a ≤ℤ z → z ≤ℤ b → FitsSigned w128 (z +ℤ k)
between a k b z p q l h = omega (arith, ints)

-- with the least and the greatest each number stays within 128 bits
pub all_fit : (zs : List ℤ) (k : ℤ) → Ascend zs → 0 < length zs
    → ((d : ℤ) → FitsSigned w128 (get_or zs 0 d +ℤ k)) → ((d : ℤ) → FitsSigned w128 (get_or zs (length zs - 1) d +ℤ k)) → Fit (moved k zs)
all_fit zs k asc some least greatest i d lt =
    let within : i < length zs = omega (arith, length-map zs (λ (z : ℤ). z +ℤ k)) in
    subst (λ z. FitsSigned w128 z) (sym (moved_at zs k d i within))
    (between (get_or zs 0 d) k (get_or zs (length zs - 1) d) (get_or zs i d) (least d) (greatest d) (no_more zs d 0 i asc (omega arith) within) (no_more zs d i (length zs - 1) asc (omega arith) (omega arith)))

-- a read of what fits
pub sum_fits : (zs : List ℤ) (k d : ℤ) (i : ℕ) → Fit (moved k zs) → i < length zs → FitsSigned w128 (get_or zs i d +ℤ k)
sum_fits zs k d i h lt =
    subst (FitsSigned w128) (moved_at zs k d i lt) (h i d (let e = length-map zs (λ (z : ℤ). z +ℤ k) in omega arith))

-- ---- what operators make of whole numbers
once : (z : ℤ) → z *ℤ pos 1 ≡ z
unfolding one
once z = *ℤ-one z

pub sum : (x k : ℤ) → FitsSigned w128 x → FitsSigned w128 k → FitsSigned w128 (x +ℤ k) → sum_of (whole x) (whole k) ≡ Ok (whole (x +ℤ k))
unfolding gcd divisor_by
sum x k p q r = rw (once x, once k) (rw (fits_is x p, fits_is k q, fits_is (x +ℤ k) r) (whole_fraction (x +ℤ k) r))

pub difference : (x k : ℤ) → FitsSigned w128 x → FitsSigned w128 k → FitsSigned w128 (x -ℤ k) → difference_of (whole x) (whole k) ≡ Ok (whole (x -ℤ k))
unfolding gcd divisor_by
difference x k p q r = rw (once x, once k) (rw (fits_is x p, fits_is k q, fits_is (x -ℤ k) r) (whole_fraction (x -ℤ k) r))

pub each_moved : (f : Fraction → Result Fraction RatioError) (k : ℤ) (zs : List ℤ)
    → ((x : ℤ) → FitsSigned w128 x → FitsSigned w128 (x +ℤ k) → f (whole x) ≡ Ok (whole (x +ℤ k)))
    → Fit zs → Fit (moved k zs) → on_each f (wholes zs) ≡ Ok (wholes (moved k zs))
each_moved f k [] says p q = refl
each_moved f k (z ∷ zs) says p q =
    ap (λ l. and_then (on_number f l) then) (number_layer (whole z))
    ∙ ap (λ r. and_then (number_of r) then) (says z (All-head (FitsSigned w128) z zs p) (All-head (FitsSigned w128) (z +ℤ k) (moved k zs) q))
    ∙ ap (λ r. and_then r (λ ys. Ok (c.Number (whole (z +ℤ k)) ∷ ys))) (each_moved f k zs says (All-tail (FitsSigned w128) z zs p) (All-tail (FitsSigned w128) (z +ℤ k) (moved k zs) q))
  where
    then : Const → Result (List Const) Why
    then y = and_then (on_each f (wholes zs)) (λ ys. Ok (y ∷ ys))

-- ---- order
pub less : (m n : ℤ) → m <ℤ n → const_order (c.Number (whole m)) (c.Number (whole n)) ≡ Less
less m n h = number_order (whole m) (whole n) ∙ rw (once m, once n) (sym (int_cmp_is m n Less h))

pub from_less : (m n : ℤ) → const_order (c.Number (whole m)) (c.Number (whole n)) ≡ Less → m <ℤ n
from_less m n e =
    let same : int_cmp m n ≡ Less = sym (ap (λ a. int_cmp a (n *ℤ pos 1)) (once m) ∙ ap (int_cmp m) (once n)) ∙ sym (number_order (whole m) (whole n)) ∙ e in
    subst (λ r. MatchOrdering r (m <ℤ n) (m ≡ n) (n <ℤ m)) same (int_ranks m n)

constant_at : (zs : List ℤ) (i : ℕ) (d : Const) → i < length zs → get_or (wholes zs) i d ≡ c.Number (whole (get_or zs i (pos 0)))
constant_at zs i d lt = get_or-map (λ z. c.Number (whole z)) zs i (pos 0) d lt

pub wholes_ascend : (zs : List ℤ) → Ascend zs → IsAscending (wholes zs)
wholes_ascend zs asc i j d lt h =
    let in_j : j < length zs = omega (arith, length-map zs (λ (z : ℤ). c.Number (whole z))) in
    ap (λ u. const_order u (get_or (wholes zs) j d)) (constant_at zs i d (omega arith))
    ∙ ap (const_order (c.Number (whole (get_or zs i (pos 0))))) (constant_at zs j d in_j)
    ∙ less (get_or zs i (pos 0)) (get_or zs j (pos 0)) (asc i j (pos 0) lt in_j)

pub numbers_ascend : (zs : List ℤ) → IsAscending (wholes zs) → Ascend zs
numbers_ascend zs asc i j d lt h =
    let in_j : j < length (wholes zs) = omega (arith, length-map zs (λ (z : ℤ). c.Number (whole z))) in
    let at : (n : ℕ) → n < length zs → get_or (wholes zs) n (c.Number (whole d)) ≡ c.Number (whole (get_or zs n d)) = λ n l. get_or-map (λ z. c.Number (whole z)) zs n d (c.Number (whole d)) l in
    from_less (get_or zs i d) (get_or zs j d)
    (sym (ap (const_order (c.Number (whole (get_or zs i d)))) (at j h))
    ∙ sym (ap (λ u. const_order u (get_or (wholes zs) j (c.Number (whole d)))) (at i (omega arith)))
    ∙ asc i j (c.Number (whole d)) lt in_j)

pub moved_ascend : (zs : List ℤ) (k : ℤ) → Ascend zs → Ascend (moved k zs)
moved_ascend zs k asc i j d lt h =
    let in_j : j < length zs = omega (arith, length-map zs (λ (z : ℤ). z +ℤ k)) in
    let e = moved_at zs k d i (omega arith) in
    let f = moved_at zs k d j in_j in
    omega (arith, ints, e, f, asc i j d lt in_j)

-- ---- one number after another
pub moved_twice : (s k : ℤ) (zs : List ℤ) → moved (s +ℤ k) zs ≡ moved k (moved s zs)
moved_twice s k [] = refl
moved_twice s k (z ∷ zs) =
    let same : z +ℤ (s +ℤ k) ≡ (z +ℤ s) +ℤ k = omega (arith, ints) in
    ap (λ m. m ∷ moved (s +ℤ k) zs) same ∙ ap (λ l. ((z +ℤ s) +ℤ k) ∷ l) (moved_twice s k zs)

pub moved_none : (zs : List ℤ) → moved (pos 0) zs ≡ zs
moved_none [] = refl
moved_none (z ∷ zs) =
    let same : z +ℤ pos 0 ≡ z = omega (arith, ints) in
    ap (λ m. m ∷ moved (pos 0) zs) same ∙ ap (λ l. z ∷ l) (moved_none zs)

-- numbers one by one
pub constant_more : (zs : List ℤ) (i : ℕ) (d : ℤ) → i < length zs → wholes (take (i + 1) zs) ≡ wholes (take i zs) ++ c.Number (whole (get_or zs i d)) ∷ []
constant_more zs i d lt = ap wholes (take_more zs i d lt) ∙ map-append (λ z. c.Number (whole z)) (take i zs) (get_or zs i d ∷ [])

pub sum_more : (zs : List ℤ) (k : ℤ) (i : ℕ) (d : ℤ) → i < length zs → wholes (moved k (take (i + 1) zs)) ≡ wholes (moved k (take i zs)) ++ c.Number (whole (get_or zs i d +ℤ k)) ∷ []
sum_more zs k i d lt =
    ap (λ l. wholes (moved k l)) (take_more zs i d lt)
    ∙ ap wholes (map-append (λ z. z +ℤ k) (take i zs) (get_or zs i d ∷ []))
    ∙ map-append (λ z. c.Number (whole z)) (moved k (take i zs)) ((get_or zs i d +ℤ k) ∷ [])

-- numbers in 128 bits
pub none_added : (zs : List ℤ) → Fit zs → Fit (moved (pos 0) zs)
none_added zs h = subst Fit (sym (moved_none zs)) h

-- ---- what is a shift
whole_is : (y : Fraction) (n : ℤ) → whole_of y ≡ Some n → y ≡ whole n
whole_is y n e = by (y.den == 1) refl
  where
    by : (b : Bool) → (y.den == 1) ≡ b → y ≡ whole n
    by true f =
        let num : Some y.num ≡ Some n = ap (λ b. cond b (Some y.num) None) (sym f) ∙ e in
        let same : y.num ≡ n = cc in
        ap (λ m. record { num = m; den = y.den }) same ∙ ap (λ d. record { num = n; den = d }) (eqb-true y.den 1 f)
    by false f = let num : None ≡ Some n = ap (λ b. cond b (Some y.num) None) (sym f) ∙ e in absurd (cc)

pub adds : (y : Fraction) (n : ℤ) → whole_of y ≡ Some n → FitsSigned w128 n → IsShift sign.Add y n
adds y n e p x q r = ap (sum_of (whole x)) (whole_is y n e) ∙ sum x n q p r

pub takes : (y : Fraction) (n : ℤ) → whole_of y ≡ Some n → FitsSigned w128 n → IsShift sign.Sub y (neg_ℤ n)
takes y n e p x q r =
    let same : x -ℤ n ≡ x +ℤ neg_ℤ n = omega (arith, ints) in
    ap (difference_of (whole x)) (whole_is y n e) ∙ difference x n q p (subst (FitsSigned w128) (sym same) r) ∙ ap (λ z. Ok (whole z)) same

-- where a sum is found
pub some_value : (r : Option ℤ) (P : Type 0) (z : ℤ) (Q : ℤ → Type 0) → SomeIff r P z → Q z → IfSome r Q
some_value None P z Q h q = tt
some_value (Some x) P z Q h q = subst Q (sym h.1) q

-- ---- a set whose members are moved
module _ (s : Arithmetic) (y : Fraction) (k : ℤ) (zs after : List ℤ) (says : IsShift s y k) (m : IsMoved zs k after) (asc : IsAscending (wholes zs)) where
  still : IsAscending (wholes (moved k zs))
  still = wholes_ascend (moved k zs) (moved_ascend zs k (numbers_ascend zs asc))

  pub shift_value : Ok (c.Set (wholes after)) ≡ on_numbers s (o.Set (wholes zs)) (o.Number y)
  shift_value =
      ap (λ l. Ok (c.Set (wholes l))) m.each
      ∙ ap (λ l. Ok (c.Set l)) (sym (set_of_ascending (wholes (moved k zs)) still))
      ∙ ap (λ r. and_then r (λ ys. Ok (c.Set (gathered ys)))) (sym (each_moved (λ x. calculated s x y) k zs says m.fit (subst Fit m.each m.still_fit)))

  pub shift_keeps : IsConst (c.Set (wholes after))
  shift_keeps = set_keeps (wholes after) (subst (λ l. IsAscending (wholes l)) (sym m.each) still)
