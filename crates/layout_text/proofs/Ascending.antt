-- Walking through ascending numbers.
use Rattle.std.proofs.Common.{◌≡◌, ℕ, ◌+◌, ◌<◌, ◌≤◌, ◌==◌, inl, inr, nat_lt, cond, true, false, List, [], ◌∷◌, ◌++◌, Some, None, refl, sym, ap, ◌∙◌, subst, arith, decimal, append_assoc}
use Rattle.std.proofs.lemmas.Bool.{cases_lt, lt-ltb, le-ltb}
use Rattle.std.proofs.lemmas.Bool.Decides.{nat_tests}
use Rattle.std.proofs.lemmas.List.{append-nil}
use Rattle.bit_length.specs.Lengths.{Has, IsNext, IsLeast, IsGreatest}
use Rattle.bit_length.proofs.AscendingLemmas.{ascend_head, ascend_tail, has_head, has_later, has_behind, at_least}
use Rattle.layout_text.proofs.Grown.{regroup}
use Rattle.bit_length.specs.Ascending.{Ascend}
use Rattle.layout_text.specs.Sets.{first, last, listed, member_text}

-- the numbers that are no less than one
abbrev pub from_on : ℕ → List ℕ → List ℕ
from_on a [] = []
from_on a (x ∷ xs) = cond (nat_lt x a) (from_on a xs) (x ∷ xs)

all_on : (xs : List ℕ) (a : ℕ) → ((k : ℕ) → Has xs k → a ≤ k) → from_on a xs ≡ xs
all_on [] a h = refl
all_on (y ∷ ys) a h = let t : nat_lt y a ≡ false = le-ltb y a (h y (has_head y ys)) in rw t refl

pub from_start : (xs : List ℕ) → from_on 0 xs ≡ xs
from_start xs = all_on xs 0 (λ k h. omega arith)

pub next_on : (s : List ℕ) (a n : ℕ) → Ascend s → IsNext (Has s) a (Some n) → from_on a s ≡ n ∷ from_on (n + 1) s
next_on [] a n up ((k, lt, e), low, least) = absurd (omega arith)
next_on (x ∷ xs) a n up (has, low, least) = elim (cases_lt x a) [
  | inl h ↦
      let t : nat_lt x a ≡ true = lt-ltb x a h in
      let u : nat_lt x (n + 1) ≡ true = lt-ltb x (n + 1) (omega arith) in
      rw (t, u) (next_on xs a n (ascend_tail x xs up) (has_behind x xs n has (omega arith), low, λ k m. least k (has_later x xs k m)))
  | inr h ↦
      let le : n ≤ x = least x (has_head x xs) h in
      let ge : x ≤ n = at_least x xs n up has in
      let e : x ≡ n = omega arith in
      let t : nat_lt x a ≡ false = le-ltb x a h in
      let u : nat_lt x (n + 1) ≡ true = lt-ltb x (n + 1) (omega arith) in
      let rest : from_on (n + 1) xs ≡ xs = all_on xs (n + 1) (λ k m. let l = ascend_head x xs up k m in omega arith) in
      rw (t, u, rest) (ap (λ y. y ∷ xs) e)
]

pub none_on : (s : List ℕ) (a : ℕ) → ((k : ℕ) → Has s k → k < a) → from_on a s ≡ []
none_on [] a h = refl
none_on (x ∷ xs) a h =
    let t : nat_lt x a ≡ true = lt-ltb x a (h x (has_head x xs)) in
    rw t (none_on xs a (λ k m. h k (has_later x xs k m)))

-- what is left behind a number holds the members above it
left_above : (s : List ℕ) (a m : ℕ) (ms : List ℕ) → from_on a s ≡ m ∷ ms → Has s m × (a ≤ m)
left_above [] a m ms e = absurd (cc)
left_above (x ∷ xs) a m ms e = elim (cases_lt x a) [
  | inl h ↦
      let t : nat_lt x a ≡ true = lt-ltb x a h in
      let w = left_above xs a m ms (rw t at e) in (has_later x xs m w.0, w.1)
  | inr h ↦
      let t : nat_lt x a ≡ false = le-ltb x a h in
      let f : x ∷ xs ≡ m ∷ ms = rw t at e in
      let g : x ≡ m = cc in
      (subst (λ y. Has (x ∷ xs) y) g (has_head x xs), omega arith)
]

left_none : (s : List ℕ) (a k : ℕ) → from_on a s ≡ [] → Has s k → Ascend s → k < a
left_none [] a k e (i, lt, f) up = absurd (omega arith)
left_none (x ∷ xs) a k e has up = elim (cases_lt x a) [
  | inl h ↦ elim (cases_lt x k) [
    | inl l ↦
        let t : nat_lt x a ≡ true = lt-ltb x a h in
        left_none xs a k (rw t at e) (has_behind x xs k has l) (ascend_tail x xs up)
    | inr l ↦ omega arith
  ]
  | inr h ↦
      let t : nat_lt x a ≡ false = le-ltb x a h in
      let f : x ∷ xs ≡ [] = rw t at e in
      absurd (cc)
]

-- the text of a member and those behind it
member_more : (n g : ℕ) (rest : List ℕ) → (rest ≡ [] → n ≡ g) → ((m : ℕ) (ms : List ℕ) → rest ≡ m ∷ ms → n < g) → listed (n ∷ rest) ≡ member_text n (n == g) ++ listed rest
member_more n g [] all more =
    let e : n ≡ g = all refl in
    let t : (n == g) ≡ true = grind (arith, nat_tests) in
    rw (t, append-nil (decimal n)) (sym (append-nil (decimal n)))
member_more n g (m ∷ ms) all more =
    let l : n < g = more m ms refl in
    let t : (n == g) ≡ false = grind (arith, nat_tests) in
    rw t (simp append_assoc)

pub member_listed : (s : List ℕ) (a n g : ℕ) → Ascend s → IsGreatest (Has s) g → IsNext (Has s) a (Some n) → listed (from_on a s) ≡ member_text n (n == g) ++ listed (from_on (n + 1) s)
member_listed s a n g up (top, greatest) next =
    ap listed (next_on s a n up next) ∙ member_more n g (from_on (n + 1) s)
    (λ e. let l = left_none s (n + 1) g e top up in let m = greatest n next.0 in omega arith)
    (λ m ms e. let w = left_above s (n + 1) m ms e in let l = greatest m w.0 in omega arith)

-- what has been listed of a set
pub record IsListed (s : List ℕ) (from : ℕ) (old new : List ℕ) : Type 0 where
  pub is : new ++ listed (from_on from s) ≡ old ++ listed s

pub listed_start : (s old : List ℕ) → IsListed s 0 old old
listed_start s old = record { is = ap (λ l. old ++ listed l) (from_start s) }

pub listed_more : (s old new more : List ℕ) (a n g : ℕ) → Ascend s → IsGreatest (Has s) g → IsListed s a old new → IsNext (Has s) a (Some n) → more ≡ new ++ member_text n (n == g) → IsListed s (n + 1) old more
listed_more s old new more a n g up top so_far next e = record {
  is = ap (λ t. t ++ listed (from_on (n + 1) s)) e
      ∙ regroup new (member_text n (n == g)) (listed (from_on (n + 1) s))
      ∙ ap (λ t. new ++ t) (sym (member_listed s a n g up top next))
      ∙ so_far.is;
}

pub listed_end : (s old new : List ℕ) (a : ℕ) → IsListed s a old new → IsNext (Has s) a None → new ≡ old ++ listed s
listed_end s old new a so_far none = sym (append-nil new) ∙ ap (λ l. new ++ listed l) (sym (none_on s a none)) ∙ so_far.is

pub first_is : (s : List ℕ) (m : ℕ) → Ascend s → IsLeast (Has s) m → m ≡ first s
first_is [] m up ((k, lt, e), least) = absurd (omega arith)
first_is (x ∷ xs) m up (has, least) =
    let a = at_least x xs m up has in
    let b = least x (has_head x xs) in
    omega arith

pub last_is : (s : List ℕ) (g : ℕ) → Ascend s → IsGreatest (Has s) g → g ≡ last s
last_is [] g up ((k, lt, e), greatest) = absurd (omega arith)
last_is (x ∷ []) g up (has, greatest) =
    let a = at_least x [] g up has in
    elim (cases_lt x g) [
      | inl l ↦ none (has_behind x [] g has l)
      | inr l ↦ omega arith
    ]
  where
    none : Has [] g → g ≡ x
    none (k, lt, e) = absurd (omega arith)
last_is (x ∷ y ∷ ys) g up (has, greatest) =
    let a = ascend_head x (y ∷ ys) up y (has_head y ys) in
    let b = greatest y (has_later x (y ∷ ys) y (has_head y ys)) in
    last_is (y ∷ ys) g (ascend_tail x (y ∷ ys) up) (has_behind x (y ∷ ys) g has (omega arith), λ k m. greatest k (has_later x (y ∷ ys) k m))
