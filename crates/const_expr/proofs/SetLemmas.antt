-- Sets of constants: where a member is, and where one goes in.
use Rattle.std.proofs.Common.{◌≡◌, ◌≢◌, ◌⊎◌, inl, inr, ℕ, zero, suc, ◌+◌, ◌-◌, ◌<◌, ◌≤◌, Bool, true, false, ◌||◌, List, [], ◌∷◌, length, get_or, filter, All, Some, None, refl, sym, ap, ◌∙◌, arith, Less, Equal, Greater}
use Rattle.std.specs.List.{insert}
use Rattle.std.specs.Ordering.{is_eq, ordering_reverse}
use Rattle.std.specs.declared.cmp.Ordering.{Ordering}
use Rattle.std.proofs.lemmas.List.{get_or_default}
use Rattle.std.proofs.lemmas.List.Kept.{AllPairs-cons, AllPairs-filter}
use Rattle.std.proofs.lemmas.List.Elements.{All-cons, All-nil, All-tail}
use Rattle.const_expr.specs.declared.constant.Const.{Const}
use Rattle.const_expr.specs.Constants.{const_order, placed, with_one, with_all, IsAscending, has, IsPlace}
use Rattle.const_expr.specs.Order.{const_order_total}

-- a constant stands behind each member before place i
abbrev pub IsBehind : List Const → Const → ℕ → Type 0
IsBehind xs x i = (k : ℕ) (d : Const) → k < i → const_order x (get_or xs k d) ≡ Greater

-- a constant stands before each member from place i on
abbrev pub IsBefore : List Const → Const → ℕ → Type 0
IsBefore xs x i = (k : ℕ) (d : Const) → i ≤ k → k < length xs → const_order x (get_or xs k d) ≡ Less

pub reverse_at : (x y : Const) (r : Ordering) → const_order x y ≡ r → const_order y x ≡ ordering_reverse r
reverse_at x y r e = const_order_total.antisymm y x ∙ ap ordering_reverse e

no_member : (r : Ordering) (b : Bool) → r ≢ Equal → b ≡ false → (is_eq r || b) ≡ false
no_member Less b n e = e
no_member Equal b n e = absurd (n refl)
no_member Greater b n e = e

-- equal to none: no member
none_of : (xs : List Const) (x : Const) → ((k : ℕ) (d : Const) → k < length xs → const_order x (get_or xs k d) ≢ Equal) → has xs x ≡ false
none_of [] x h = refl
none_of (y ∷ ys) x h = no_member (const_order x y) (has ys x) (h 0 x (omega arith)) (none_of ys x (λ k d lt. h (suc k) d (omega arith)))

-- the list with x in its place
goes : (xs : List Const) (x : Const) (i : ℕ) → i ≤ length xs → IsBehind xs x i → IsBefore xs x i → with_one x xs ≡ insert xs i x
unfolding with_one
goes [] x zero le behind before = refl
goes [] x (suc i) le behind before = absurd (omega arith)
goes (y ∷ ys) x zero le behind before = ap (λ r. placed r x y ys (with_one x ys)) (before 0 x (omega arith) (omega arith))
goes (y ∷ ys) x (suc i) le behind before =
    ap (λ r. placed r x y ys (with_one x ys)) (behind 0 x (omega arith))
    ∙ ap (λ l. y ∷ l) (goes ys x i (omega arith) (λ k d lt. behind (suc k) d (omega arith)) (λ k d le lt. before (suc k) d (omega arith) (omega arith)))

unlike_less : (r : Ordering) → r ≡ Less → r ≢ Equal
unlike_less r e f = cc

unlike_greater : (r : Ordering) → r ≡ Greater → r ≢ Equal
unlike_greater r e f = cc

pub side : (k i : ℕ) → (k < i) ⊎ (i ≤ k)
side k zero = inr (omega arith)
side zero (suc i) = inl (omega arith)
side (suc k) (suc i) = elim (side k i) [ inl h ↦ inl (omega arith) | inr h ↦ inr (omega arith) ]

unlike : (xs : List Const) (x : Const) (i k : ℕ) (d : Const) → IsBehind xs x i → IsBefore xs x i → k < length xs → (k < i) ⊎ (i ≤ k) → const_order x (get_or xs k d) ≢ Equal
unlike xs x i k d behind before lt (inl h) = unlike_greater _ (behind k d h)
unlike xs x i k d behind before lt (inr h) = unlike_less _ (before k d h lt)

pub goes_in : (xs : List Const) (x : Const) (i : ℕ) → i ≤ length xs → IsBehind xs x i → IsBefore xs x i → IsPlace xs x (Some i)
goes_in xs x i le behind before = (le, goes xs x i le behind before, none_of xs x (λ k d lt. unlike xs x i k d behind before lt (side k i)))

-- x is the member at place i
stays : (xs : List Const) (x : Const) (i : ℕ) → i < length xs → IsBehind xs x i → const_order x (get_or xs i x) ≡ Equal → with_one x xs ≡ xs
unfolding with_one
stays [] x i lt behind e = absurd (omega arith)
stays (y ∷ ys) x zero lt behind e = ap (λ r. placed r x y ys (with_one x ys)) e
stays (y ∷ ys) x (suc i) lt behind e =
    ap (λ r. placed r x y ys (with_one x ys)) (behind 0 x (omega arith))
    ∙ ap (λ l. y ∷ l) (stays ys x i (omega arith) (λ k d h. behind (suc k) d (omega arith)) e)

or_true : (b : Bool) → (b || true) ≡ true
or_true true = refl
or_true false = refl

found : (xs : List Const) (x : Const) (i : ℕ) → i < length xs → const_order x (get_or xs i x) ≡ Equal → has xs x ≡ true
found [] x i lt e = absurd (omega arith)
found (y ∷ ys) x zero lt e = ap (λ r. is_eq r || has ys x) e
found (y ∷ ys) x (suc i) lt e = ap (λ b. is_eq (const_order x y) || b) (found ys x i (omega arith) e) ∙ or_true (is_eq (const_order x y))

-- where x stands behind a member it stands behind all before it too
behind_equal : (xs : List Const) (x y : Const) (m : ℕ) → IsAscending xs → m < length xs → y ≡ get_or xs m y → const_order x y ≡ Equal → IsBehind xs x m
behind_equal xs x y m asc lt is e k d h =
    let at : y ≡ get_or xs m d = is ∙ get_or_default xs m y d lt in
    const_order_total.congr x y (get_or xs k d) e
    ∙ ap (λ z. const_order z (get_or xs k d)) at
    ∙ reverse_at (get_or xs k d) (get_or xs m d) Less (asc k m d h lt)

pub at_member : (xs : List Const) (x y : Const) (m : ℕ) → IsAscending xs → m < length xs → y ≡ get_or xs m y → const_order x y ≡ Equal → IsPlace xs x None
at_member xs x y m asc lt is e =
    let there : const_order x (get_or xs m x) ≡ Equal = ap (λ z. const_order x z) (sym (is ∙ get_or_default xs m y x lt)) ∙ e in
    (stays xs x m lt (behind_equal xs x y m asc lt is e) there, found xs x m lt there)

pub before_less : (xs : List Const) (x y : Const) (m : ℕ) → IsAscending xs → m < length xs → y ≡ get_or xs m y → const_order x y ≡ Less → IsBefore xs x m
before_less xs x y m asc lt is e k d le h = later (side m k)
  where
    at : y ≡ get_or xs m d
    at = is ∙ get_or_default xs m y d lt

    here : const_order x (get_or xs m d) ≡ Less
    here = ap (λ z. const_order x z) (sym at) ∙ e

    later : (m < k) ⊎ (k ≤ m) → const_order x (get_or xs k d) ≡ Less
    later (inl lower) = const_order_total.trans x (get_or xs m d) (get_or xs k d) here (asc m k d lower h)
    later (inr upper) = let same : m ≡ k = omega arith in ap (λ j. const_order x (get_or xs j d)) (sym same) ∙ here

pub behind_greater : (xs : List Const) (x y : Const) (m : ℕ) → IsAscending xs → m < length xs → y ≡ get_or xs m y → const_order x y ≡ Greater → IsBehind xs x (m + 1)
behind_greater xs x y m asc lt is e k d h = earlier (side k m)
  where
    at : y ≡ get_or xs m d
    at = is ∙ get_or_default xs m y d lt

    here : const_order x (get_or xs m d) ≡ Greater
    here = ap (λ z. const_order x z) (sym at) ∙ e

    earlier : (k < m) ⊎ (m ≤ k) → const_order x (get_or xs k d) ≡ Greater
    earlier (inl lower) = reverse_at (get_or xs k d) x Less
        (const_order_total.trans (get_or xs k d) (get_or xs m d) x (asc k m d lower lt) (reverse_at x (get_or xs m d) Greater here))
    earlier (inr upper) = let same : m ≡ k = omega arith in ap (λ j. const_order x (get_or xs j d)) (sym same) ∙ here

-- the constants before place n ascend
abbrev pub AscendTo : List Const → ℕ → Type 0
AscendTo xs n = (i j : ℕ) (d : Const) → i < j → j < n → const_order (get_or xs i d) (get_or xs j d) ≡ Less

-- one more that stands behind the last of them
pub one_more_ascends : (xs : List Const) (n : ℕ) → AscendTo xs n → ((d : Const) → const_order (get_or xs (n - 1) d) (get_or xs n d) ≡ Less) → AscendTo xs (n + 1)
one_more_ascends xs n before next i j d lt h = by (side j n)
  where
    by_last : (i < n - 1) ⊎ (n - 1 ≤ i) → j ≡ n → const_order (get_or xs i d) (get_or xs n d) ≡ Less
    by_last (inl lower) e = const_order_total.trans (get_or xs i d) (get_or xs (n - 1) d) (get_or xs n d) (before i (n - 1) d lower (omega arith)) (next d)
    by_last (inr upper) e = let same : i ≡ n - 1 = omega arith in ap (λ k. const_order (get_or xs k d) (get_or xs n d)) same ∙ next d

    by : (j < n) ⊎ (n ≤ j) → const_order (get_or xs i d) (get_or xs j d) ≡ Less
    by (inl lower) = before i j d lt lower
    by (inr upper) = let same : j ≡ n = omega arith in ap (λ k. const_order (get_or xs i d) (get_or xs k d)) same ∙ by_last (side i (n - 1)) same

-- what holds of a constant and of each member holds of each member with it
all_one : (P : Const → Type 0) (x : Const) (xs : List Const) → P x → All P xs → All P (with_one x xs)
unfolding with_one
all_one P x [] p ps = All-cons P x [] p ps
all_one P x (y ∷ ys) p ps = by_order (const_order x y) (all_one P x ys p (All-tail P y ys ps))
  where
    by_order : (r : Ordering) → All P (with_one x ys) → All P (placed r x y ys (with_one x ys))
    by_order Less rest = All-cons P x (y ∷ ys) p ps
    by_order Equal rest = ps
    by_order Greater rest = All-cons P y (with_one x ys) (ps 0 y (omega arith)) rest

pub tail_ascends : (x : Const) (xs : List Const) → IsAscending (x ∷ xs) → IsAscending xs
tail_ascends x xs asc i j d lt h = asc (suc i) (suc j) d (omega arith) (omega arith)

pub head_below : (x : Const) (xs : List Const) → IsAscending (x ∷ xs) → All (λ y. const_order x y ≡ Less) xs
head_below x xs asc = λ k d lt. asc 0 (suc k) d (omega arith) (omega arith)

-- a set with one constant more ascends
pub one_ascends : (x : Const) (xs : List Const) → IsAscending xs → IsAscending (with_one x xs)
unfolding with_one
one_ascends x [] asc = AllPairs-cons (λ u v. const_order u v ≡ Less) x [] (All-nil _) asc
one_ascends x (y ∷ ys) asc = by_order (const_order x y) refl (one_ascends x ys (tail_ascends y ys asc))
  where
    by_order : (r : Ordering) → const_order x y ≡ r → IsAscending (with_one x ys) → IsAscending (placed r x y ys (with_one x ys))
    by_order Less e rest = AllPairs-cons (λ u v. const_order u v ≡ Less) x (y ∷ ys)
        (All-cons (λ v. const_order x v ≡ Less) y ys e (λ k d lt. const_order_total.trans x y (get_or ys k d) e (head_below y ys asc k d lt))) asc
    by_order Equal e rest = asc
    by_order Greater e rest = AllPairs-cons (λ u v. const_order u v ≡ Less) y (with_one x ys)
        (all_one (λ v. const_order y v ≡ Less) x ys (reverse_at x y Greater e) (head_below y ys asc)) rest

pub all_ascend : (set more : List Const) → IsAscending set → IsAscending (with_all set more)
all_ascend set [] asc = asc
all_ascend set (x ∷ more) asc = all_ascend (with_one x set) more (one_ascends x set asc)

pub none_ascends : IsAscending []
none_ascends i j d lt h = absurd (omega arith)

pub some_ascend : (test : Const → Bool) (xs : List Const) → IsAscending xs → IsAscending (filter test xs)
some_ascend test xs asc = AllPairs-filter (λ x y. const_order x y ≡ Less) test xs asc
