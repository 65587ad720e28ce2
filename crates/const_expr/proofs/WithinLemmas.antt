-- Sets within sets, member by member of both.
use Rattle.std.proofs.Common.{◌≡◌, ℕ, zero, suc, ◌+◌, ◌<◌, ◌≤◌, true, false, ◌||◌, ◌&&◌, List, [], ◌∷◌, length, drop, get_or, All, refl, sym, ap, ◌∙◌, subst, arith, Less, Equal, Greater}
use Rattle.std.proofs.Math.Seq.{drop-cons}
use Rattle.std.proofs.Math.Numerals.{add-one}
use Rattle.std.specs.Ordering.{is_eq}
use Rattle.std.proofs.lemmas.List.Elements.{All-cons, All-tail}
use Rattle.const_expr.specs.declared.constant.Const.{Const}
use Rattle.const_expr.specs.Constants.{const_order, IsAscending, has, is_within}
use Rattle.const_expr.specs.Order.{const_order_total}
use Rattle.const_expr.proofs.SetLemmas.{head_below, tail_ascends, reverse_at}

-- a set has nothing below its members
has_none : (x : Const) (ys : List Const) → All (λ y. const_order x y ≡ Less) ys → has ys x ≡ false
has_none x [] below = refl
has_none x (y ∷ ys) below = ap (λ r. is_eq r || has ys x) (below 0 x (omega arith)) ∙ has_none x ys (All-tail (λ z. const_order x z ≡ Less) y ys below)

-- the first member is none of those that are above it
past_first : (xs : List Const) (y : Const) (ys : List Const) → All (λ x. const_order x y ≡ Greater) xs → is_within xs (y ∷ ys) ≡ is_within xs ys
past_first [] y ys above = refl
past_first (x ∷ xs) y ys above =
    ap (λ r. (is_eq r || has ys x) && is_within xs (y ∷ ys)) (above 0 x (omega arith))
    ∙ ap (λ b. has ys x && b) (past_first xs y ys (All-tail (λ z. const_order z y ≡ Greater) x xs above))

-- members behind x, where x isn't below y, are above y
above_next : (x y : Const) (xs : List Const) → ((z : Const) → const_order x z ≡ Less → const_order z y ≡ Greater) → All (λ z. const_order x z ≡ Less) xs → All (λ z. const_order z y ≡ Greater) xs
above_next x y xs h behind k d lt = h (get_or xs k d) (behind k d lt)

pub within_less : (x y : Const) (xs ys : List Const) → IsAscending (y ∷ ys) → const_order x y ≡ Less → is_within (x ∷ xs) (y ∷ ys) ≡ false
within_less x y xs ys asc e =
    ap (λ b. b && is_within xs (y ∷ ys))
    (has_none x (y ∷ ys) (All-cons (λ z. const_order x z ≡ Less) y ys e (λ k d lt. const_order_total.trans x y (get_or ys k d) e (head_below y ys asc k d lt))))

pub within_equal : (x y : Const) (xs ys : List Const) → IsAscending (x ∷ xs) → const_order x y ≡ Equal → is_within (x ∷ xs) (y ∷ ys) ≡ is_within xs ys
within_equal x y xs ys asc e =
    ap (λ r. (is_eq r || has ys x) && is_within xs (y ∷ ys)) e
    ∙ past_first xs y ys (above_next x y xs (λ z l. reverse_at y z Less (sym (const_order_total.congr x y z e) ∙ l)) (head_below x xs asc))

pub within_greater : (x y : Const) (xs ys : List Const) → IsAscending (x ∷ xs) → const_order x y ≡ Greater → is_within (x ∷ xs) (y ∷ ys) ≡ is_within (x ∷ xs) ys
within_greater x y xs ys asc e =
    past_first (x ∷ xs) y ys
    (All-cons (λ z. const_order z y ≡ Greater) x xs e
    (above_next x y xs (λ z l. reverse_at y z Less (const_order_total.trans y x z (reverse_at x y Greater e) l)) (head_below x xs asc)))

drop_ascends : (i : ℕ) (xs : List Const) → IsAscending xs → IsAscending (drop i xs)
drop_ascends zero xs asc = asc
drop_ascends (suc i) [] asc = asc
drop_ascends (suc i) (x ∷ xs) asc = drop_ascends i xs (tail_ascends x xs asc)

-- from place i on
from : (xs : List Const) (i : ℕ) (x : Const) → i < length xs → x ≡ get_or xs i x → drop i xs ≡ x ∷ drop (i + 1) xs
from xs i x lt e = drop-cons xs i x lt ∙ ap (λ y. y ∷ drop (suc i) xs) (sym e) ∙ ap (λ n. x ∷ drop n xs) (sym (add-one i))

module _ (xs ys : List Const) (i j : ℕ) (x y : Const) (left : IsAscending xs) (right : IsAscending ys) (lt : i < length xs) (under : j < length ys) (is : x ≡ get_or xs i x) (also : y ≡ get_or ys j y) where
  here : is_within (drop i xs) (drop j ys) ≡ is_within (x ∷ drop (i + 1) xs) (y ∷ drop (j + 1) ys)
  here = ap (λ l. is_within l (drop j ys)) (from xs i x lt is) ∙ ap (λ l. is_within (x ∷ drop (i + 1) xs) l) (from ys j y under also)

  left_from : IsAscending (x ∷ drop (i + 1) xs)
  left_from = subst IsAscending (from xs i x lt is) (drop_ascends i xs left)

  right_from : IsAscending (y ∷ drop (j + 1) ys)
  right_from = subst IsAscending (from ys j y under also) (drop_ascends j ys right)

  pub at_less : const_order x y ≡ Less → is_within (drop i xs) (drop j ys) ≡ false
  at_less e = here ∙ within_less x y (drop (i + 1) xs) (drop (j + 1) ys) right_from e

  pub at_equal : const_order x y ≡ Equal → is_within (drop i xs) (drop j ys) ≡ is_within (drop (i + 1) xs) (drop (j + 1) ys)
  at_equal e = here ∙ within_equal x y (drop (i + 1) xs) (drop (j + 1) ys) left_from e

  pub at_greater : const_order x y ≡ Greater → is_within (drop i xs) (drop j ys) ≡ is_within (drop i xs) (drop (j + 1) ys)
  at_greater e = here ∙ within_greater x y (drop (i + 1) xs) (drop (j + 1) ys) left_from e ∙ ap (λ l. is_within l (drop (j + 1) ys)) (sym (from xs i x lt is))

past_end : (i : ℕ) (xs : List Const) → length xs ≤ i → drop i xs ≡ []
past_end zero [] le = refl
past_end (suc i) [] le = refl
past_end zero (x ∷ xs) le = absurd (omega arith)
past_end (suc i) (x ∷ xs) le = past_end i xs (omega arith)

-- members are left and the other set has none
pub at_end : (xs ys : List Const) (i j : ℕ) → i < length xs → length ys ≤ j → is_within (drop i xs) (drop j ys) ≡ false
at_end xs ys i j lt le = ap (is_within (drop i xs)) (past_end j ys le) ∙ some i xs lt
  where
    some : (i : ℕ) (xs : List Const) → i < length xs → is_within (drop i xs) [] ≡ false
    some i [] lt = absurd (omega arith)
    some zero (x ∷ xs) lt = refl
    some (suc i) (x ∷ xs) lt = some i xs (omega arith)

-- no member is left
pub at_last : (xs ys : List Const) (i : ℕ) → length xs ≤ i → is_within (drop i xs) ys ≡ true
at_last xs ys i le = ap (λ l. is_within l ys) (past_end i xs le)
