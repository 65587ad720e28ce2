-- Ascending lists are known by their members.
use Rattle.std.proofs.Common.{◌≡◌, ℕ, zero, suc, ◌<◌, ◌≤◌, inl, inr, Bool, true, false, cond, List, [], ◌∷◌, ◌++◌, length, get_or, refl, sym, subst, arith}
use Rattle.std.proofs.lemmas.Bool.{cases_lt}
use Rattle.std.proofs.lemmas.List.{append-nil, get_or_default}
use Rattle.std.proofs.lemmas.List.Quantifiers.{all_pairs_push}
use Rattle.bit_length.specs.Ascending.{Ascend}
use Rattle.bit_length.specs.Lengths.{Has, IsWithin}
use Rattle.bit_length.specs.Runs.{numbers_below}
use Rattle.bit_length.proofs.MemberLemmas.{below-has, has-below}

pub ascend_head : (x : ℕ) (xs : List ℕ) → Ascend (x ∷ xs) → (n : ℕ) → Has xs n → x < n
ascend_head x xs up n (k, lt, e) = subst (λ t. x < t) e (up 0 (suc k) n (omega arith) (omega arith))

pub ascend_tail : (x : ℕ) (xs : List ℕ) → Ascend (x ∷ xs) → Ascend xs
ascend_tail x xs up = λ i j d lt short. up (suc i) (suc j) d (omega arith) (omega arith)

pub has_head : (x : ℕ) (xs : List ℕ) → Has (x ∷ xs) x
has_head x xs = (0, omega arith, refl)

pub has_later : (x : ℕ) (xs : List ℕ) (n : ℕ) → Has xs n → Has (x ∷ xs) n
has_later x xs n (k, lt, e) = (suc k, omega arith, e)

pub has_behind : (x : ℕ) (xs : List ℕ) (n : ℕ) → Has (x ∷ xs) n → x < n → Has xs n
has_behind x xs n (zero, lt, e) l = absurd (omega arith)
has_behind x xs n (suc k, lt, e) l = (k, omega arith, e)

pub has_none : (n : ℕ) → Has [] n → ⊥
has_none n (k, lt, e) = absurd (omega arith)

pub at_least : (x : ℕ) (xs : List ℕ) (n : ℕ) → Ascend (x ∷ xs) → Has (x ∷ xs) n → x ≤ n
at_least x xs n up (zero, lt, e) = omega arith
at_least x xs n up (suc k, lt, e) = let l = ascend_head x xs up n (k, omega arith, e) in omega arith

-- behind equal first numbers, the others are of the others
within_tail : (x y : ℕ) (xs ys : List ℕ) → Ascend (x ∷ xs) → x ≡ y → IsWithin (Has (x ∷ xs)) (Has (y ∷ ys)) → IsWithin (Has xs) (Has ys)
within_tail x y xs ys up e f n h = let l = ascend_head x xs up n h in has_behind y ys n (f n (has_later x xs n h)) (omega arith)

-- a list that begins above another's first number is of the other's rest
within_behind : (x y : ℕ) (xs ys : List ℕ) → Ascend (x ∷ xs) → y < x → IsWithin (Has (x ∷ xs)) (Has (y ∷ ys)) → IsWithin (Has (x ∷ xs)) (Has ys)
within_behind x y xs ys up lt f n h = let l = at_least x xs n up h in has_behind y ys n (f n h) (omega arith)

-- a list of numbers of another is no longer
pub within_short : (xs ys : List ℕ) → Ascend xs → Ascend ys → IsWithin (Has xs) (Has ys) → length xs ≤ length ys
within_short [] ys up down f = omega arith
within_short (x ∷ xs) [] up down f = absurd (has_none x (f x (has_head x xs)))
within_short (x ∷ xs) (y ∷ ys) up down f =
    let least = at_least y ys x down (f x (has_head x xs)) in
    elim (cases_lt y x) [
      | inl h ↦ let l = within_short (x ∷ xs) ys up (ascend_tail y ys down) (within_behind x y xs ys up h f) in omega arith
      | inr h ↦ let l = within_short xs ys (ascend_tail x xs up) (ascend_tail y ys down) (within_tail x y xs ys up (omega arith) f) in omega arith
    ]

-- and the same where it is as long
pub same_length : (xs ys : List ℕ) → Ascend xs → Ascend ys → length xs ≡ length ys → IsWithin (Has xs) (Has ys) → xs ≡ ys
same_length [] [] up down e f = refl
same_length [] (y ∷ ys) up down e f = absurd (omega arith)
same_length (x ∷ xs) [] up down e f = absurd (omega arith)
same_length (x ∷ xs) (y ∷ ys) up down e f =
    let least = at_least y ys x down (f x (has_head x xs)) in
    elim (cases_lt y x) [
      | inl h ↦ absurd (let l = within_short (x ∷ xs) ys up (ascend_tail y ys down) (within_behind x y xs ys up h f) in omega arith)
      | inr h ↦
          let same : x ≡ y = omega arith in
          let rest : xs ≡ ys = same_length xs ys (ascend_tail x xs up) (ascend_tail y ys down) (omega arith) (within_tail x y xs ys up same f) in
          cc
    ]

-- two lists of the same numbers are one
pub one_list : (xs ys : List ℕ) → Ascend xs → Ascend ys → IsWithin (Has xs) (Has ys) → IsWithin (Has ys) (Has xs) → xs ≡ ys
one_list xs ys up down f g =
    let a = within_short xs ys up down f in
    let b = within_short ys xs down up g in
    same_length xs ys up down (omega arith) f

-- ---- the numbers below n that pass a test

pub below_same : (n : ℕ) (p q : ℕ → Bool) → ((k : ℕ) → k < n → p k ≡ q k) → numbers_below n p ≡ numbers_below n q
unfolding numbers_below
below_same zero p q e = refl
below_same (suc n) p q e =
    rw (below_same n p q (λ k lt. e k (omega arith)), e n (omega arith)) refl

pub same_test : (a b : Bool) → (a ≡ true → b ≡ true) → (b ≡ true → a ≡ true) → a ≡ b
same_test true b f g = sym (f refl)
same_test false true f g = g refl
same_test false false f g = refl

ascend_more : (b : Bool) (n : ℕ) (xs : List ℕ) → Ascend xs → ((k : ℕ) → Has xs k → k < n) → Ascend (xs ++ cond b (n ∷ []) [])
ascend_more true n xs up below = all_pairs_push (λ a b. a < b) xs n up (λ k d lt. below (get_or xs k d) (k, lt, get_or_default xs k (get_or xs k d) d lt))
ascend_more false n xs up below = subst Ascend (sym (append-nil xs)) up

pub below_ascends : (n : ℕ) (test : ℕ → Bool) → Ascend (numbers_below n test)
unfolding numbers_below
below_ascends zero test = λ i j d lt short. absurd (omega arith)
below_ascends (suc n) test = ascend_more (test n) n (numbers_below n test) (below_ascends n test) (λ k h. (below-has n test k h).0)

-- an ascending list whose members are the numbers below n that pass a test
pub one_below : (n : ℕ) (test : ℕ → Bool) (ns : List ℕ) → Ascend ns → ((k : ℕ) → Has ns k → (k < n) × (test k ≡ true)) → ((k : ℕ) → k < n → test k ≡ true → Has ns k) → ns ≡ numbers_below n test
one_below n test ns up f g = one_list ns (numbers_below n test) up (below_ascends n test) (λ k h. let (lt, t) = f k h in has-below n test k lt t) (λ k h. let (lt, t) = below-has n test k h in g k lt t)
