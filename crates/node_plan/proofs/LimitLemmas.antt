-- Lemmas on the version of a text, and how many of its bytes count.
use Rattle.std.proofs.Common.{◌≡◌, ◌∙◌, ◌+◌, ◌<◌, ◌≤◌, ◌^◌, ◌-◌, ◌==◌, ◌⊎◌, inl, inr, zero, suc, ℕ, Bool, true, false, List, [], ◌∷◌, ◌++◌, Some, None, refl, sym, ap, arith, drop, get_or, length, take}
use Rattle.std.specs.Prelude.{◌||◌, codes, if◌then◌else◌}
use Rattle.std.specs.Str.{bytes_eq}
use Rattle.std.proofs.lemmas.List.{drop_all, drop_more, take-take}
use Rattle.node_plan.specs.Limit.{begins_two, is_plan_two, is_version_two, limit_of, skips}

-- the first seven bytes tell whether a line is `plan 2`
is_plan_two-take : (k : ℕ) (s : List ℕ) → 7 ≤ k → is_plan_two (take k s) ≡ is_plan_two s
is_plan_two-take k s h = ap (λ t. bytes_eq t (codes "plan 2") || bytes_eq t (codes "plan 2" ++ 10 ∷ [])) (take-take 7 k s h)

-- bytes behind those among which the line begins, and behind the line, tell nothing
begins_two-take : (comment : Bool) (n k : ℕ) (s : List ℕ) → n + 7 ≤ k → begins_two comment n (take k s) ≡ begins_two comment n s
unfolding begins_two
begins_two-take comment zero k s h = refl
begins_two-take comment (suc n) zero s h = absurd (omega arith)
begins_two-take comment (suc n) (suc k) [] h = refl
begins_two-take comment (suc n) (suc k) (b ∷ s) h =
    of_tests (b == 10) (comment || (b == 35)) (λ c. begins_two-take c n k s (omega arith)) (is_plan_two-take (suc k) (b ∷ s) (omega arith))
  where
    of_tests : (t u : Bool) → ((c : Bool) → begins_two c n (take k s) ≡ begins_two c n s) → is_plan_two (b ∷ take k s) ≡ is_plan_two (b ∷ s)
        → (if t then begins_two false n (take k s) else (if u then begins_two true n (take k s) else is_plan_two (b ∷ take k s)))
        ≡ (if t then begins_two false n s else (if u then begins_two true n s else is_plan_two (b ∷ s)))
    of_tests true u rest said = rest false
    of_tests false true rest said = rest true
    of_tests false false rest said = said

is_version_two-take : (s : List ℕ) → is_version_two (take (2 ^ 20 + 33) s) ≡ is_version_two s
is_version_two-take s = begins_two-take false (2 ^ 20) (2 ^ 20 + 33) s (omega arith)

pub limit_of-take : (s : List ℕ) → limit_of (take (2 ^ 20 + 33) s) ≡ limit_of s
limit_of-take s = ap (λ t. if t then 2 ^ 20 + 32 else 2 ^ 20) (is_version_two-take s)

pub limit_of-low : (s : List ℕ) → limit_of s < 2 ^ 20 + 33
limit_of-low s = of_test (is_version_two s)
  where
    of_test : (t : Bool) → (if t then 2 ^ 20 + 32 else 2 ^ 20) < 2 ^ 20 + 33
    of_test true = omega arith
    of_test false = omega arith

-- where no line that says something begins
pub begins_two-none : (comment : Bool) (n : ℕ) → begins_two comment n [] ≡ false
unfolding begins_two
begins_two-none comment zero = refl
begins_two-none comment (suc n) = refl

pub begins_two-zero : (comment : Bool) (s : List ℕ) → begins_two comment 0 s ≡ false
unfolding begins_two
begins_two-zero comment s = refl

-- a byte of a skipped line
pub begins_two-skip : (comment next : Bool) (n b : ℕ) (s : List ℕ) → skips comment b ≡ Some next → begins_two comment (suc n) (b ∷ s) ≡ begins_two next n s
unfolding begins_two
begins_two-skip comment next n b s h = of_tests (b == 10) (comment || (b == 35)) h
  where
    of_tests : (t u : Bool) → (if t then Some false else (if u then Some true else None)) ≡ Some next
        → (if t then begins_two false n s else (if u then begins_two true n s else is_plan_two (b ∷ s))) ≡ begins_two next n s
    of_tests true u h = let e : false ≡ next = cc in ap (λ c. begins_two c n s) e
    of_tests false true h = let e : true ≡ next = cc in ap (λ c. begins_two c n s) e
    of_tests false false h = cc

-- a line that says something
pub begins_two-said : (comment : Bool) (n b : ℕ) (s : List ℕ) → skips comment b ≡ None → begins_two comment (suc n) (b ∷ s) ≡ is_plan_two (b ∷ s)
unfolding begins_two
begins_two-said comment n b s h = of_tests (b == 10) (comment || (b == 35)) h
  where
    of_tests : (t u : Bool) → (if t then Some false else (if u then Some true else None)) ≡ None
        → (if t then begins_two false n s else (if u then begins_two true n s else is_plan_two (b ∷ s))) ≡ is_plan_two (b ∷ s)
    of_tests true u h = cc
    of_tests false true h = cc
    of_tests false false h = refl

-- the byte at a place, where there is one
begins_two-at : (comment : Bool) (n i : ℕ) (s : List ℕ) → i < n → i < length s
    → begins_two comment (n - i) (drop i s) ≡ begins_two comment (suc (n - (i + 1))) (get_or s i 0 ∷ drop (i + 1) s)
begins_two-at comment n i s l h =
    let e : n - i ≡ suc (n - (i + 1)) = omega arith in
    ap (λ m. begins_two comment m (drop i s)) e ∙ ap (begins_two comment (suc (n - (i + 1)))) (drop_more s i 0 h)

pub begins_two-next : (comment next : Bool) (n i : ℕ) (s : List ℕ) → i < n → i < length s → skips comment (get_or s i 0) ≡ Some next
    → begins_two comment (n - i) (drop i s) ≡ begins_two next (n - (i + 1)) (drop (i + 1) s)
begins_two-next comment next n i s l h e =
    begins_two-at comment n i s l h ∙ begins_two-skip comment next (n - (i + 1)) (get_or s i 0) (drop (i + 1) s) e

pub begins_two-line : (comment : Bool) (n i : ℕ) (s : List ℕ) → i < n → i < length s → skips comment (get_or s i 0) ≡ None
    → begins_two comment (n - i) (drop i s) ≡ is_plan_two (drop i s)
begins_two-line comment n i s l h e =
    begins_two-at comment n i s l h ∙ begins_two-said comment (n - (i + 1)) (get_or s i 0) (drop (i + 1) s) e
    ∙ ap is_plan_two (sym (drop_more s i 0 h))

pub begins_two-end : (comment : Bool) (n i : ℕ) (s : List ℕ) → (n ≤ i) ⊎ (length s ≤ i) → begins_two comment (n - i) (drop i s) ≡ false
begins_two-end comment n i s (inl h) = let e : n - i ≡ 0 = omega arith in ap (λ m. begins_two comment m (drop i s)) e ∙ begins_two-zero comment (drop i s)
begins_two-end comment n i s (inr h) = ap (begins_two comment (n - i)) (drop_all i s h) ∙ begins_two-none comment (n - i)
