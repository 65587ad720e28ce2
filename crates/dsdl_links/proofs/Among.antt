-- Numbers among others
use Rattle.std.proofs.Common.{◌≡◌, ℕ, zero, suc, ◌<◌, ◌==◌, Bool, true, false, ◌&&◌, ◌||◌, List, [], ◌∷◌, ◌++◌, length, get_or, ◌⊎◌, inl, inr, refl, sym, ap, ◌∙◌, arith, eq-eqb}
use Rattle.std.specs.List.{list_all}
use Rattle.std.proofs.lemmas.Bool.{or_cases, false≢true, eqb-true}
use Rattle.std.proofs.lemmas.List.Folds.{list_any-append, list_all-append}
use Rattle.dsdl_links.specs.Order.{is_among}

-- a test is true or not
pub decide : (b : Bool) → (b ≡ true) ⊎ (b ≡ false)
decide true = inl refl
decide false = inr refl

pub or_left : (a b : Bool) → a ≡ true → (a || b) ≡ true
or_left true b h = refl
or_left false b h = absurd (false≢true h)

pub or_right : (a b : Bool) → b ≡ true → (a || b) ≡ true
or_right true b h = refl
or_right false b h = h

pub and_left : (a b : Bool) → (a && b) ≡ true → a ≡ true
and_left true b h = refl
and_left false b h = absurd (false≢true h)

pub and_right : (a b : Bool) → (a && b) ≡ true → b ≡ true
and_right true b h = h
and_right false b h = absurd (false≢true h)

pub and_both : (a b : Bool) → a ≡ true → b ≡ true → (a && b) ≡ true
and_both a b h k = ap (λ x. x && b) h ∙ k

pub among_front : (xs ys : List ℕ) (k : ℕ) → is_among xs k ≡ true → is_among (xs ++ ys) k ≡ true
among_front xs ys k h = list_any-append (λ x. k == x) xs ys ∙ or_left (is_among xs k) (is_among ys k) h

pub among_last : (xs : List ℕ) (x : ℕ) → is_among (xs ++ x ∷ []) x ≡ true
among_last xs x = list_any-append (λ y. x == y) xs (x ∷ []) ∙ or_right (is_among xs x) (is_among (x ∷ []) x) (or_left (x == x) false (eq-eqb x x refl))

one_alone : (x k : ℕ) → is_among (x ∷ []) k ≡ true → k ≡ x
one_alone x k h = elim (or_cases (k == x) false h) [ inl e ↦ eqb-true k x e | inr e ↦ absurd (false≢true e) ]

pub among_cases : (xs ys : List ℕ) (k : ℕ) → is_among (xs ++ ys) k ≡ true → (is_among xs k ≡ true) ⊎ (is_among ys k ≡ true)
among_cases xs ys k h = or_cases (is_among xs k) (is_among ys k) (sym (list_any-append (λ y. k == y) xs ys) ∙ h)

pub among_push : (xs : List ℕ) (x k : ℕ) → is_among (xs ++ x ∷ []) k ≡ true → (is_among xs k ≡ true) ⊎ (k ≡ x)
among_push xs x k h = elim (among_cases xs (x ∷ []) k h) [ inl e ↦ inl e | inr e ↦ inr (one_alone x k e) ]

pub among_at : (xs : List ℕ) (i d : ℕ) → i < length xs → is_among xs (get_or xs i d) ≡ true
among_at [] i d lt = absurd (omega arith)
among_at (x ∷ xs) zero d lt = or_left (x == x) (is_among xs x) (eq-eqb x x refl)
among_at (x ∷ xs) (suc i) d lt = or_right (get_or xs i d == x) (is_among xs (get_or xs i d)) (among_at xs i d (omega arith))

-- ---- a test of all of them
pub each : (p : ℕ → Bool) (xs : List ℕ) (k : ℕ) → list_all p xs ≡ true → is_among xs k ≡ true → p k ≡ true
each p [] k h m = absurd (false≢true m)
each p (x ∷ xs) k h m = elim (or_cases (k == x) (is_among xs k) m) [
  | inl e ↦ ap p (eqb-true k x e) ∙ and_left (p x) (list_all p xs) h
  | inr e ↦ each p xs k (and_right (p x) (list_all p xs) h) e
]

pub from_each : (p : ℕ → Bool) (xs : List ℕ) → ((k : ℕ) → is_among xs k ≡ true → p k ≡ true) → list_all p xs ≡ true
from_each p [] h = refl
from_each p (x ∷ xs) h =
    and_both (p x) (list_all p xs) (h x (or_left (x == x) (is_among xs x) (eq-eqb x x refl)))
    (from_each p xs (λ k m. h k (or_right (k == x) (is_among xs k) m)))

-- one of them fails
pub some_fails : (p : ℕ → Bool) (xs : List ℕ) → list_all p xs ≡ false → (k : ℕ) × (is_among xs k ≡ true) × (p k ≡ false)
some_fails p [] h = absurd (false≢true (sym h))
some_fails p (x ∷ xs) h = at (decide (p x)) (λ e. some_fails p xs e)
  where
    at : (p x ≡ true) ⊎ (p x ≡ false) → (list_all p xs ≡ false → (k : ℕ) × (is_among xs k ≡ true) × (p k ≡ false)) → (k : ℕ) × (is_among (x ∷ xs) k ≡ true) × (p k ≡ false)
    at (inl e) behind =
        let rest : list_all p xs ≡ false = ap (λ b. b && list_all p xs) (sym e) ∙ h in
        let (k, m, f) = behind rest in
        (k, or_right (k == x) (is_among xs k) m, f)
    at (inr e) behind = (x, or_left (x == x) (is_among xs x) (eq-eqb x x refl), e)

pub same_all : (p q : ℕ → Bool) (xs : List ℕ) → ((k : ℕ) → p k ≡ q k) → list_all p xs ≡ list_all q xs
same_all p q [] h = refl
same_all p q (x ∷ xs) h = ap (λ b. b && list_all p xs) (h x) ∙ ap (λ b. q x && b) (same_all p q xs h)

pub all_push : (p : ℕ → Bool) (xs : List ℕ) (x : ℕ) → list_all p xs ≡ true → p x ≡ true → list_all p (xs ++ x ∷ []) ≡ true
all_push p xs x h k = list_all-append p xs (x ∷ []) ∙ and_both (list_all p xs) (list_all p (x ∷ [])) h (and_both (p x) true k refl)
