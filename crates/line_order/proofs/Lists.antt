-- Entries that are put into order, and those of them that are due.
use Rattle.std.proofs.Common.{◌≡◌, ◌∙◌, ◌+◌, ◌<◌, ◌≤◌, ℕ, Bool, true, false, List, [], ◌∷◌, ◌++◌, refl, sym, ap, subst, append_assoc, arith}
use Rattle.std.specs.Prelude.{cond, if◌then◌else◌, nat_lt}
use Rattle.std.specs.List.{filter}
use Rattle.std.proofs.lemmas.Bool.Decides.{nat_tests}
use Rattle.line_order.specs.Held.{AreBelow, AreDue, first_due}
use Rattle.line_order.specs.Moments.{AreFrom, AreUpTo, Rises}
use Rattle.line_order.specs.Order.{Entry, put, ordered, is_due, due, texts}

pub yes : {X : Type 0} (t : Bool) (a b : X) → t ≡ true → (if t then a else b) ≡ a
yes true a b h = refl
yes false a b h = absurd cc

pub no : {X : Type 0} (t : Bool) (a b : X) → t ≡ false → (if t then a else b) ≡ b
no true a b h = absurd cc
no false a b h = refl

from_less : (m n : ℕ) (es : List Entry) → n ≤ m → AreFrom m es → AreFrom n es
from_less m n [] h a = tt
from_less m n (e ∷ es) h a = (omega (arith, a.0), from_less m n es h a.1)

-- where an entry is put among others
pub put_case : (e x : Entry) (xs : List Entry) (P : List Entry → Type 0) → (e.moment < x.moment → P (e ∷ x ∷ xs)) → (x.moment ≤ e.moment → P (x ∷ put e xs)) → P (put e (x ∷ xs))
put_case e x xs P first last = either (nat_lt e.moment x.moment) refl
  where
    either : (t : Bool) → nat_lt e.moment x.moment ≡ t → P (if nat_lt e.moment x.moment then e ∷ x ∷ xs else x ∷ put e xs)
    either true t = subst (λ (l : List Entry). P l) (sym (yes (nat_lt e.moment x.moment) (e ∷ x ∷ xs) (x ∷ put e xs) t)) (first (grind (arith, nat_tests, t)))
    either false t = subst (λ (l : List Entry). P l) (sym (no (nat_lt e.moment x.moment) (e ∷ x ∷ xs) (x ∷ put e xs) t)) (last (grind (arith, nat_tests, t)))

from_put : (m : ℕ) (e : Entry) (es : List Entry) → m ≤ e.moment → AreFrom m es → AreFrom m (put e es)
from_put m e [] h a = (h, tt)
from_put m e (x ∷ xs) h a = put_case e x xs (λ l. AreFrom m l) (λ less. (h, a)) (λ le. (a.0, from_put m e xs h a.1))

pub rises_put : (e : Entry) (es : List Entry) → Rises es → Rises (put e es)
rises_put e [] r = (tt, tt)
rises_put e (x ∷ xs) r =
    put_case e x xs (λ l. Rises l) (λ less. let le : e.moment ≤ x.moment = omega (arith, less) in ((le, from_less x.moment e.moment xs le r.0), r))
    (λ le. (from_put x.moment e xs le r.0, rises_put e xs r.1))

pub rises_ordered : (es : List Entry) → Rises (ordered es)
rises_ordered [] = tt
rises_ordered (e ∷ es) = rises_put e (ordered es) (rises_ordered es)

pub rises_behind : (xs ys : List Entry) → Rises (xs ++ ys) → Rises ys
rises_behind [] ys r = r
rises_behind (x ∷ xs) ys r = rises_behind xs ys r.1

-- an entry is put behind those that are not above it
pub put_behind : (e : Entry) (xs ys : List Entry) → AreUpTo e.moment xs → put e (xs ++ ys) ≡ xs ++ put e ys
put_behind e [] ys h = refl
put_behind e (x ∷ xs) ys h =
    no (nat_lt e.moment x.moment) (e ∷ x ∷ (xs ++ ys)) (x ∷ put e (xs ++ ys)) (grind (arith, nat_tests, h.0))
    ∙ ap (λ (l : List Entry). x ∷ l) (put_behind e xs ys h.1)

-- What is due.

pub due_up_to : (window latest m : ℕ) (es : List Entry) → latest ≤ m + window → AreDue window latest es → AreUpTo m es
due_up_to window latest m [] h d = tt
due_up_to window latest m (e ∷ es) h d =
    let le : e.moment + window ≤ latest = grind (arith, nat_tests, d.0) in (omega (arith, le, h), due_up_to window latest m es h d.1)

pub due_later : (window latest later : ℕ) (es : List Entry) → latest ≤ later → AreDue window latest es → AreDue window later es
due_later window latest later [] h d = tt
due_later window latest later (e ∷ es) h d =
    let le : e.moment + window ≤ latest = grind (arith, nat_tests, d.0) in
    (grind (arith, nat_tests, le, h), due_later window latest later es h d.1)

cond_yes : {X : Type 0} (t : Bool) (a b : X) → t ≡ true → cond t a b ≡ a
cond_yes true a b h = refl
cond_yes false a b h = absurd cc

cond_no : {X : Type 0} (t : Bool) (a b : X) → t ≡ false → cond t a b ≡ b
cond_no true a b h = absurd cc
cond_no false a b h = refl

filter_case : (window latest : ℕ) (e : Entry) (rest : List Entry) (P : List Entry → Type 0) → (is_due window latest e ≡ true → P (e ∷ rest)) → P rest → P (cond (is_due window latest e) (e ∷ rest) rest)
filter_case window latest e rest P due late = either (is_due window latest e) refl
  where
    either : (t : Bool) → is_due window latest e ≡ t → P (cond (is_due window latest e) (e ∷ rest) rest)
    either true t = subst (λ (l : List Entry). P l) (sym (cond_yes (is_due window latest e) (e ∷ rest) rest t)) (due t)
    either false t = subst (λ (l : List Entry). P l) (sym (cond_no (is_due window latest e) (e ∷ rest) rest t)) late

pub filter_due : (window latest : ℕ) (es : List Entry) → AreDue window latest (filter (is_due window latest) es)
filter_due window latest [] = tt
filter_due window latest (e ∷ es) =
    filter_case window latest e (filter (is_due window latest) es) (λ l. AreDue window latest l) (λ t. (t, filter_due window latest es)) (filter_due window latest es)

pub filter_front : (window latest : ℕ) (xs ys : List Entry) → AreDue window latest xs → filter (is_due window latest) (xs ++ ys) ≡ xs ++ filter (is_due window latest) ys
filter_front window latest [] ys d = refl
filter_front window latest (x ∷ xs) ys d =
    cond_yes (is_due window latest x) (x ∷ filter (is_due window latest) (xs ++ ys)) (filter (is_due window latest) (xs ++ ys)) d.0
    ∙ ap (λ (l : List Entry). x ∷ l) (filter_front window latest xs ys d.1)

-- behind a moment that isn't due none is
filter_late : (window latest m : ℕ) (es : List Entry) → latest < m + window → AreFrom m es → filter (is_due window latest) es ≡ []
filter_late window latest m [] h a = refl
filter_late window latest m (e ∷ es) h a =
    let up : latest < e.moment + window = omega (arith, h, a.0) in
    cond_no (is_due window latest e) (e ∷ filter (is_due window latest) es) (filter (is_due window latest) es) (grind (arith, nat_tests, up))
    ∙ filter_late window latest m es h a.1

pub filter_none : (window latest : ℕ) (es : List Entry) → Rises es → first_due window latest es ≡ false → filter (is_due window latest) es ≡ []
filter_none window latest [] r h = refl
filter_none window latest (e ∷ es) r h =
    let up : latest < e.moment + window = grind (arith, nat_tests, h) in filter_late window latest e.moment (e ∷ es) up (omega arith, r.0)

pub texts_append : (xs ys : List Entry) → texts (xs ++ ys) ≡ texts xs ++ texts ys
texts_append [] ys = refl
texts_append (x ∷ xs) ys = ap (λ (t : List ℕ). x.text ++ t) (texts_append xs ys) ∙ sym (append_assoc x.text (texts xs) (texts ys))

-- Numbers.

pub below_more : (m n : ℕ) (es : List Entry) → m ≤ n → AreBelow m es → AreBelow n es
below_more m n [] h b = tt
below_more m n (e ∷ es) h b = (omega (arith, b.0), below_more m n es h b.1)

pub below_put : (n : ℕ) (e : Entry) (es : List Entry) → e.number < n → AreBelow n es → AreBelow n (put e es)
below_put n e [] h b = (h, tt)
below_put n e (x ∷ xs) h b = put_case e x xs (λ l. AreBelow n l) (λ less. (h, b)) (λ le. (b.0, below_put n e xs h b.1))

pub below_behind : (n : ℕ) (xs ys : List Entry) → AreBelow n (xs ++ ys) → AreBelow n ys
below_behind n [] ys b = b
below_behind n (x ∷ xs) ys b = below_behind n xs ys b.1

pub below_ordered : (n : ℕ) (es : List Entry) → AreBelow n es → AreBelow n (ordered es)
below_ordered n [] b = tt
below_ordered n (e ∷ es) b = below_put n e (ordered es) b.0 (below_ordered n es b.1)
