-- Lengths among numbers, and sets within sets.
use Rattle.std.proofs.Common.{◌≡◌, ◌≢◌, ◌⊎◌, inl, inr, ℕ, zero, suc, ◌*◌, ◌<◌, pos, ◌*ℤ◌, Bool, true, false, IsTrue, ◌↔◌, ◌||◌, ◌&&◌, List, [], ◌∷◌, length, get_or, Contains, refl, sym, ap, ◌∙◌, arith, Less, Equal, Greater}
use Rattle.std.proofs.Math.Nat.{mul-one}
use Rattle.std.specs.Cmp.{Equal-is, tied_itself}
use Rattle.std.specs.Ordering.{is_eq}
use Rattle.std.specs.declared.cmp.Ordering.{Ordering}
use Rattle.cy_ratio.specs.Fraction.{Fraction, order_of, IsReduced, gcd, divisor_by}
use Rattle.cy_ratio.specs.Order.{equal_is}
use Rattle.cy_ratio.proofs.OneLemmas.{one_order}
use Rattle.bit_length.specs.Lengths.{Has, IsWithin}
use Rattle.const_expr.specs.declared.constant.Const.{Const, out-Const}
use Rattle.const_expr.specs.declared.constant.Const.TheVariants as c
use Rattle.const_expr.specs.declared.constant.Const.TheOpen as o
use Rattle.const_expr.specs.Constants.{Layer, kind, whole, natural, naturals, const_order, layer_order, has, is_within}
use Rattle.const_expr.proofs.Layers.{number_layer}
use Rattle.const_expr.specs.Order.{const_order_total}

pub number_order : (x y : Fraction) → const_order (c.Number x) (c.Number y) ≡ order_of x y
unfolding const_order
number_order x y = rw (number_layer x, number_layer y) refl

whole_reduced : (n : ℕ) → IsReduced (whole (pos n))
unfolding gcd divisor_by
whole_reduced n = (omega arith, omega arith, refl)

-- a number that equals a length is that length
pub is_that : (x : Fraction) (n : ℕ) → IsReduced x → order_of x (whole (pos n)) ≡ Equal → x ≡ whole (pos n)
is_that x n r e = one_order x (whole (pos n)) r (whole_reduced n) e

equal_naturals : (m n : ℕ) → const_order (natural m) (natural n) ≡ Equal → m ≡ n
equal_naturals m n e =
    let same : pos m *ℤ pos 1 ≡ pos n *ℤ pos 1 = equal_is (pos m *ℤ pos 1) (pos n *ℤ pos 1) (sym (number_order (whole (pos m)) (whole (pos n))) ∙ e) in
    let times : m * 1 ≡ n * 1 = cc in
    sym (mul-one m) ∙ times ∙ mul-one n

itself : (x : Const) → const_order x x ≡ Equal
itself x = tied_itself const_order_total x

either : (a b : Bool) → (a || b) ≡ true → (a ≡ true) ⊎ (b ≡ true)
either true b e = inl refl
either false b e = inr e

behind : (m n : ℕ) (ns : List ℕ) → Contains ns n → Contains (m ∷ ns) n
behind m n ns h = (suc h.0, omega (arith, h.1), h.2)

pub to_has : (ns : List ℕ) (n : ℕ) → has (naturals ns) (natural n) ≡ true → Contains ns n
to_has [] n e = absurd (cc)
to_has (m ∷ ns) n e = from (either (is_eq (const_order (natural n) (natural m))) (has (naturals ns) (natural n)) e) (λ h. to_has ns n h)
  where
    from : (is_eq (const_order (natural n) (natural m)) ≡ true) ⊎ (has (naturals ns) (natural n) ≡ true) → (has (naturals ns) (natural n) ≡ true → Contains ns n) → Contains (m ∷ ns) n
    from (inl h) rest = let same : n ≡ m = equal_naturals n m ((Equal-is (const_order (natural n) (natural m))).0 h) in (0, omega arith, sym same)
    from (inr h) rest = behind m n ns (rest h)

or_true : (b : Bool) → (b || true) ≡ true
or_true true = refl
or_true false = refl

at_place : (ns : List ℕ) (n k : ℕ) → k < length ns → get_or ns k n ≡ n → has (naturals ns) (natural n) ≡ true
at_place [] n k lt e = absurd (omega arith)
at_place (m ∷ ns) n zero lt e = ap (λ y. is_eq (const_order (natural n) (natural y)) || has (naturals ns) (natural n)) e ∙ ap (λ r. is_eq r || has (naturals ns) (natural n)) (itself (natural n))
at_place (m ∷ ns) n (suc k) lt e = ap (λ b. is_eq (const_order (natural n) (natural m)) || b) (at_place ns n k (omega arith) e) ∙ or_true (is_eq (const_order (natural n) (natural m)))

pub from_has : (ns : List ℕ) (n : ℕ) → Contains ns n → has (naturals ns) (natural n) ≡ true
from_has ns n h = at_place ns n h.0 h.1 h.2

no_member : (r : Ordering) (b : Bool) → r ≢ Equal → b ≡ false → (is_eq r || b) ≡ false
no_member Less b n e = e
no_member Equal b n e = absurd (n refl)
no_member Greater b n e = e

-- a constant that equals none of the lengths
pub none_has : (ns : List ℕ) (x : Const) → ((n : ℕ) → Contains ns n → const_order x (natural n) ≢ Equal) → has (naturals ns) x ≡ false
none_has [] x h = refl
none_has (m ∷ ns) x h = no_member (const_order x (natural m)) (has (naturals ns) x) (h m (0, omega arith, refl)) (none_has ns x (λ n t. h n (behind m n ns t)))

other_kind : (u : Layer) (y : Fraction) → kind u ≢ 0 → layer_order u (o.Number y) ≢ Equal
other_kind (o.Number x) y n e = n refl
other_kind (o.Truth b) y n e = cc
other_kind (o.Str s) y n e = cc
other_kind (o.Set xs) y n e = cc
other_kind (o.Lengths ns) y n e = cc
other_kind (o.Named id) y n e = cc

-- what is no number is none of the lengths
pub no_number : (ns : List ℕ) (x : Const) → kind (out-Const x) ≢ 0 → has (naturals ns) x ≡ false
unfolding const_order
no_number ns x k = none_has ns x (λ n t e. other_kind (out-Const x) (whole (pos n)) k (ap (λ v. layer_order (out-Const x) v) (sym (number_layer (whole (pos n)))) ∙ e))

-- a test and a fact that say the same
pub decided : (b : Bool) (P : Type 0) (t : Bool) → (IsTrue b ↔ P) → (P → t ≡ true) → (t ≡ true → P) → b ≡ t
decided true P t h from to = sym (from (h.0 refl))
decided false P true h from to = h.1 (to refl)
decided false P false h from to = refl

pub is_member : (ns : List ℕ) (n : ℕ) (b : Bool) → (IsTrue b ↔ Has ns n) → b ≡ has (naturals ns) (natural n)
is_member ns n b h = decided b (Has ns n) (has (naturals ns) (natural n)) h (from_has ns n) (to_has ns n)

both : (a b : Bool) → a ≡ true → b ≡ true → (a && b) ≡ true
both a b e f = cc

pub all_within : (ms : List ℕ) (ys : List Const) → ((n : ℕ) → Contains ms n → has ys (natural n) ≡ true) → is_within (naturals ms) ys ≡ true
all_within [] ys h = refl
all_within (m ∷ ms) ys h = rw (h m (0, omega arith, refl)) (all_within ms ys (λ n t. h n (behind m n ms t)))

first_of : (a b : Bool) → (a && b) ≡ true → a ≡ true
first_of true b e = refl
first_of false b e = e

second_of : (a b : Bool) → (a && b) ≡ true → b ≡ true
second_of true b e = e
second_of false b e = absurd (cc)

each_at : (ms : List ℕ) (ys : List Const) → is_within (naturals ms) ys ≡ true → (n k : ℕ) → k < length ms → get_or ms k n ≡ n → has ys (natural n) ≡ true
each_at [] ys e n k lt is = absurd (omega arith)
each_at (m ∷ ms) ys e n zero lt is = ap (λ y. has ys (natural y)) (sym is) ∙ first_of _ _ e
each_at (m ∷ ms) ys e n (suc k) lt is = each_at ms ys (second_of (has ys (natural m)) (is_within (naturals ms) ys) e) n k (omega arith) is

pub each_within : (ms : List ℕ) (ys : List Const) → is_within (naturals ms) ys ≡ true → (n : ℕ) → Contains ms n → has ys (natural n) ≡ true
each_within ms ys e n h = each_at ms ys e n h.0 h.1 h.2

not_true : (t : Bool) → (t ≡ true → ⊥) → t ≡ false
not_true true h = absurd (h refl)
not_true false h = refl

pub not_within : (ms : List ℕ) (ys : List Const) (n : ℕ) → Contains ms n → has ys (natural n) ≡ false → is_within (naturals ms) ys ≡ false
not_within ms ys n t e = not_true (is_within (naturals ms) ys) (λ h. let yes : has ys (natural n) ≡ true = each_within ms ys h n t in cc)

pub lengths_within : (ms ns : List ℕ) (b : Bool) → (IsTrue b ↔ IsWithin (Has ms) (Has ns)) → b ≡ is_within (naturals ms) (naturals ns)
lengths_within ms ns b h = decided b (IsWithin (Has ms) (Has ns)) (is_within (naturals ms) (naturals ns)) h
    (λ w. all_within ms (naturals ns) (λ n t. from_has ns n (w n t)))
    (λ e n t. to_has ns n (each_within ms (naturals ns) e n t))
