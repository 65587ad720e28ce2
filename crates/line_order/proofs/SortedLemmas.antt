-- Entries that are put into order are the one list that is sorted and stable.
use Rattle.std.proofs.Common.{◌≡◌, ◌∙◌, ◌+◌, ◌<◌, ◌≤◌, inl, inr, ℕ, Bool, true, false, List, [], ◌∷◌, ◌++◌, length, refl, sym, ap, subst, append_assoc, append-nil, arith}
use Rattle.std.specs.Prelude.{nat_lt, ⊤}
use mathlib.Core.List.{reverse_aux}
use Rattle.std.proofs.lemmas.Bool.Decides.{nat_tests}
use Rattle.line_order.specs.Form.{Said, NoForm, Nothing, Line, said_of}
use Rattle.line_order.specs.Held.{AreBelow}
use Rattle.line_order.specs.Order.{Entry, entries_of, greatest, put, ordered, with_said}
use Rattle.line_order.specs.Sorted.{IsBefore, IsBeforeAll, Ascends, IsIn, IsOrderOf, AreInOrder, oldest_first}
use Rattle.line_order.specs.Moments.{AreUpTo}
use Rattle.line_order.proofs.Lists.{below_more, below_ordered, put_behind, put_case}

-- each number is above those behind it
abbrev pub Falls : List Entry → Type 0
Falls [] = ⊤
Falls (e ∷ es) = AreBelow e.number es × Falls es

below_said : (n : ℕ) (s : Said) (es : List Entry) → AreBelow n es → AreBelow (n + 1) (with_said n s es)
below_said n NoForm es b = below_more n (n + 1) es (omega arith) b
below_said n Nothing es b = below_more n (n + 1) es (omega arith) b
below_said n (Line moment text) es b = (omega arith, below_more n (n + 1) es (omega arith) b)

-- the numbers of entries are no more than the number of their lines
pub entries_below : (past : List (List ℕ)) → AreBelow (length past + 1) (entries_of past)
entries_below [] = tt
entries_below (line ∷ past) =
    let n : length past + 1 ≡ length (line ∷ past) = omega arith in
    subst (λ m. AreBelow (m + 1) (entries_of (line ∷ past))) n (below_said (length past + 1) (said_of line) (entries_of past) (entries_below past))

fall_said : (n : ℕ) (s : Said) (es : List Entry) → AreBelow n es → Falls es → Falls (with_said n s es)
fall_said n NoForm es b f = f
fall_said n Nothing es b f = f
fall_said n (Line moment text) es b f = (b, f)

entries_fall : (past : List (List ℕ)) → Falls (entries_of past)
entries_fall [] = tt
entries_fall (line ∷ past) = fall_said (length past + 1) (said_of line) (entries_of past) (entries_below past) (entries_fall past)

-- The order.

before_later : (a b c : Entry) → a.moment < b.moment → IsBefore b c → IsBefore a c
before_later a b c h (inl k) = inl (omega arith)
before_later a b c h (inr k) = inl (omega (arith, k.0))

before_all_later : (a b : Entry) (es : List Entry) → a.moment < b.moment → IsBeforeAll b es → IsBeforeAll a es
before_all_later a b [] h all = tt
before_all_later a b (e ∷ es) h all = (before_later a b e h all.0, before_all_later a b es h all.1)

before_put : (a e : Entry) (es : List Entry) → IsBefore a e → IsBeforeAll a es → IsBeforeAll a (put e es)
before_put a e [] h all = (h, tt)
before_put a e (x ∷ xs) h all = put_case e x xs (λ l. IsBeforeAll a l) (λ less. (h, all)) (λ le. (all.0, before_put a e xs h all.1))

before_older : (x e : Entry) → x.moment ≤ e.moment → x.number < e.number → IsBefore x e
before_older x e le less = either (nat_lt x.moment e.moment) refl
  where
    either : (t : Bool) → nat_lt x.moment e.moment ≡ t → IsBefore x e
    either true t = inl (grind (arith, nat_tests, t))
    either false t = let up : e.moment ≤ x.moment = grind (arith, nat_tests, t) in inr (omega (arith, le, up), less)

ascends_put : (e : Entry) (es : List Entry) → AreBelow e.number es → Ascends es → Ascends (put e es)
ascends_put e [] b a = (tt, tt)
ascends_put e (x ∷ xs) b a =
    put_case e x xs (λ l. Ascends l) (λ less. ((inl less, before_all_later e x xs less a.0), a))
    (λ le. (before_put x e xs (before_older x e le b.0) a.0, ascends_put e xs b.1 a.1))

ascends_ordered : (es : List Entry) → Falls es → Ascends (ordered es)
ascends_ordered [] f = tt
ascends_ordered (e ∷ es) f = ascends_put e (ordered es) (below_ordered e.number es f.0) (ascends_ordered es f.1)

-- Its entries.

in_put : (a e : Entry) (es : List Entry) → IsIn a (e ∷ es) → IsIn a (put e es)
in_put a e [] h = h
in_put a e (x ∷ xs) (inl h) = put_case e x xs (λ l. IsIn a l) (λ less. inl h) (λ le. inr (in_put a e xs (inl h)))
in_put a e (x ∷ xs) (inr (inl h)) = put_case e x xs (λ l. IsIn a l) (λ less. inr (inl h)) (λ le. inl h)
in_put a e (x ∷ xs) (inr (inr h)) = put_case e x xs (λ l. IsIn a l) (λ less. inr (inr h)) (λ le. inr (in_put a e xs (inr h)))

-- behind one of the others
in_more : (a e x : Entry) (xs : List Entry) → IsIn a (e ∷ xs) → IsIn a (e ∷ x ∷ xs)
in_more a e x xs (inl h) = inl h
in_more a e x xs (inr h) = inr (inr h)

in_first : (a e x : Entry) (xs ys : List Entry) → (IsIn a ys → IsIn a (e ∷ xs)) → IsIn a (x ∷ ys) → IsIn a (e ∷ x ∷ xs)
in_first a e x xs ys f (inl h) = inr (inl h)
in_first a e x xs ys f (inr h) = in_more a e x xs (f h)

in_front : (a e : Entry) (es : List Entry) → IsIn a (put e es) → IsIn a (e ∷ es)
in_front a e [] h = h
in_front a e (x ∷ xs) h = put_case e x xs (λ l. IsIn a l → IsIn a (e ∷ x ∷ xs)) (λ less k. k) (λ le k. in_first a e x xs (put e xs) (in_front a e xs) k) h

in_ordered : (a : Entry) (es : List Entry) → IsIn a es → IsIn a (ordered es)
in_ordered a [] h = h
in_ordered a (e ∷ es) (inl h) = in_put a e (ordered es) (inl h)
in_ordered a (e ∷ es) (inr h) = in_put a e (ordered es) (inr (in_ordered a es h))

of_behind : (a e : Entry) (es ys : List Entry) → (IsIn a ys → IsIn a es) → IsIn a (e ∷ ys) → IsIn a (e ∷ es)
of_behind a e es ys f (inl h) = inl h
of_behind a e es ys f (inr h) = inr (f h)

of_ordered : (a : Entry) (es : List Entry) → IsIn a (ordered es) → IsIn a es
of_ordered a [] h = h
of_ordered a (e ∷ es) h = of_behind a e es (ordered es) (of_ordered a es) (in_front a e (ordered es) h)

pub order_of : (past : List (List ℕ)) → IsOrderOf (entries_of past) (ordered (entries_of past))
order_of past = record {
  ascends = ascends_ordered (entries_of past) (entries_fall past);
  each = λ e h. in_ordered e (entries_of past) h;
  only = λ e h. of_ordered e (entries_of past) h;
}

-- There is one.

before_self : (a b : Entry) → a ≡ b → IsBefore a b → ⊥
before_self a b e (inl h) = let same : a.moment ≡ b.moment = ap (λ (x : Entry). x.moment) e in omega (arith, same)
before_self a b e (inr h) = let same : a.number ≡ b.number = ap (λ (x : Entry). x.number) e in omega (arith, same, h.1)

before_both : (a b : Entry) → IsBefore a b → IsBefore b a → ⊥
before_both a b (inl h) (inl k) = omega arith
before_both a b (inl h) (inr k) = omega (arith, k.0)
before_both a b (inr h) (inl k) = omega (arith, h.0)
before_both a b (inr h) (inr k) = omega (arith, h.1, k.1)

before_in : (a b : Entry) (es : List Entry) → IsBeforeAll a es → IsIn b es → IsBefore a b
before_in a b [] all h = absurd h
before_in a b (e ∷ es) all (inl h) = subst (λ (x : Entry). IsBefore a x) (sym h) all.0
before_in a b (e ∷ es) all (inr h) = before_in a b es all.1 h

-- those behind a first one
in_rest : (x y : Entry) (xs ys : List Entry) → x ≡ y → IsBeforeAll x xs → ((e : Entry) → IsIn e (x ∷ xs) → IsIn e (y ∷ ys)) → (e : Entry) → IsIn e xs → IsIn e ys
in_rest x y xs ys same all sub e h = either (sub e (inr h))
  where
    either : IsIn e (y ∷ ys) → IsIn e ys
    either (inl k) = absurd (before_self x e (same ∙ sym k) (before_in x e xs all h))
    either (inr k) = k

first_same : (x y : Entry) (xs ys : List Entry) → IsBeforeAll x xs → IsBeforeAll y ys → IsIn x (y ∷ ys) → IsIn y (x ∷ xs) → x ≡ y
first_same x y xs ys p q (inl h) k = h
first_same x y xs ys p q (inr h) (inl k) = sym k
first_same x y xs ys p q (inr h) (inr k) = absurd (before_both x y (before_in x y xs p k) (before_in y x ys q h))

ascends_one : (xs ys : List Entry) → Ascends xs → Ascends ys → ((e : Entry) → IsIn e xs → IsIn e ys) → ((e : Entry) → IsIn e ys → IsIn e xs) → xs ≡ ys
ascends_one [] [] a b sub sup = refl
ascends_one [] (y ∷ ys) a b sub sup = absurd (sup y (inl refl))
ascends_one (x ∷ xs) [] a b sub sup = absurd (sub x (inl refl))
ascends_one (x ∷ xs) (y ∷ ys) a b sub sup =
    let same = first_same x y xs ys a.0 b.0 (sub x (inl refl)) (sup y (inl refl)) in
    let rest = ascends_one xs ys a.1 b.1 (in_rest x y xs ys same a.0 sub) (in_rest y x ys xs (sym same) b.0 sup) in
    ap (λ (e : Entry). e ∷ xs) same ∙ ap (λ (es : List Entry). y ∷ es) rest

pub order_one : (es xs ys : List Entry) → IsOrderOf es xs → IsOrderOf es ys → xs ≡ ys
order_one es xs ys p q = ascends_one xs ys p.ascends q.ascends (λ e h. q.each e (p.only e h)) (λ e h. p.each e (q.only e h))

-- Entries in order.

pub up_to_more : (m n : ℕ) (es : List Entry) → m ≤ n → AreUpTo m es → AreUpTo n es
up_to_more m n [] h u = tt
up_to_more m n (e ∷ es) h u = (omega (arith, u.0), up_to_more m n es h u.1)

pub up_to_put : (m : ℕ) (e : Entry) (es : List Entry) → e.moment ≤ m → AreUpTo m es → AreUpTo m (put e es)
up_to_put m e [] h u = (h, tt)
up_to_put m e (x ∷ xs) h u = put_case e x xs (λ l. AreUpTo m l) (λ less. (h, u)) (λ le. (u.0, up_to_put m e xs h u.1))

up_to_greatest : (es : List Entry) → AreUpTo (greatest es) (ordered es)
up_to_greatest [] = tt
up_to_greatest (e ∷ es) = up_to_put (greatest (e ∷ es)) e (ordered es) (omega arith) (up_to_more (greatest es) (greatest (e ∷ es)) (ordered es) (omega arith) (up_to_greatest es))

pub put_last : (e : Entry) (es : List Entry) → AreUpTo e.moment es → put e es ≡ es ++ (e ∷ [])
put_last e es u = ap (λ (l : List Entry). put e l) (sym (append-nil es)) ∙ put_behind e es [] u

oldest_more : (es last : List Entry) → reverse_aux es last ≡ reverse_aux es [] ++ last
oldest_more [] last = refl
oldest_more (e ∷ es) last =
    oldest_more es (e ∷ last)
    ∙ (sym (append_assoc (reverse_aux es []) (e ∷ []) last) ∙ ap (λ (l : List Entry). l ++ last) (sym (oldest_more es (e ∷ []))))

pub ordered_kept : (es : List Entry) → AreInOrder es → ordered es ≡ oldest_first es
ordered_kept [] h = refl
ordered_kept (e ∷ es) h =
    put_last e (ordered es) (up_to_more (greatest es) e.moment (ordered es) h.0 (up_to_greatest es))
    ∙ (ap (λ (l : List Entry). l ++ (e ∷ [])) (ordered_kept es h.1) ∙ sym (oldest_more es (e ∷ [])))
