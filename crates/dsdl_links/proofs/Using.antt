-- The files that refer to a file, as they are noted one after the other
use Rattle.std.proofs.Common.{◌≡◌, ℕ, zero, suc, ◌+◌, ◌<◌, ◌≤◌, ◌==◌, Bool, true, false, ◌&&◌, ◌||◌, List, [], ◌∷◌, ◌++◌, length, set, replicate, ltb, ◌⊎◌, inl, inr, refl, sym, ap, ◌∙◌, arith, eq-eqb}
use Rattle.std.proofs.lemmas.Bool.{eqb-true, cases_order, lt-ltb, le-ltb, ne_eqb}
use Rattle.std.proofs.lemmas.List.{get_or-set_same, get_or-set_other, get_or_past, length-replicate, length-set}
use Rattle.std.proofs.lemmas.List.Folds.{list_any-append}
use Rattle.dsdl_links.specs.Order.{is_among, links_at}
use Rattle.dsdl_links.specs.Users.{AreUsers, AddsUser}
use Rattle.dsdl_links.proofs.Among.{decide}
use Rattle.dsdl_links.proofs.Marking.{differs}

-- ---- one file more
or_none : (a b : Bool) → a ≡ (a || (b && false))
or_none true b = refl
or_none false true = refl
or_none false false = refl

or_one : (a b : Bool) → (a || (b || false)) ≡ (a || (b && true))
or_one true b = refl
or_one false true = refl
or_one false false = refl

gathered : (o u f e : Bool) → ((o || (u && f)) || (u && e)) ≡ (o || (u && (f || (e || false))))
gathered true u f e = refl
gathered false false f e = refl
gathered false true true e = refl
gathered false true false true = refl
gathered false true false false = refl

pushed : (users : List (List ℕ)) (x user : ℕ) → x < length users → (i j : ℕ) →
    is_among (links_at (set users x (links_at users x ++ user ∷ [])) j) i ≡ (is_among (links_at users j) i || ((i == user) && (j == x)))
pushed users x user lt i j = at (decide (j == x))
  where
    at : ((j == x) ≡ true) ⊎ ((j == x) ≡ false) → is_among (links_at (set users x (links_at users x ++ user ∷ [])) j) i ≡ (is_among (links_at users j) i || ((i == user) && (j == x)))
    at (inl e) =
        let same : j ≡ x = eqb-true j x e in
        ap (λ n. is_among (links_at (set users x (links_at users x ++ user ∷ [])) n) i) same
        ∙ ap (λ l. is_among l i) (get_or-set_same users x (links_at users x ++ user ∷ []) [] lt)
        ∙ list_any-append (λ k. i == k) (links_at users x) (user ∷ [])
        ∙ or_one (is_among (links_at users x) i) (i == user)
        ∙ ap (λ n. is_among (links_at users n) i || ((i == user) && true)) (sym same)
        ∙ ap (λ b. is_among (links_at users j) i || ((i == user) && b)) (sym e)
    at (inr e) =
        ap (λ l. is_among l i) (get_or-set_other users x j (links_at users x ++ user ∷ []) [] (differs j x e))
        ∙ or_none (is_among (links_at users j) i) (i == user)
        ∙ ap (λ b. is_among (links_at users j) i || ((i == user) && b)) (sym e)

pub add_none : (user : ℕ) (users : List (List ℕ)) → AddsUser [] user users users
add_none user users = record { count = refl; users = λ i j. or_none (is_among (links_at users j) i) (i == user) }

pub add_more : (files : List ℕ) (x user : ℕ) (old users : List (List ℕ)) → AddsUser files user old users → x < length users →
    AddsUser (files ++ x ∷ []) user old (set users x (links_at users x ++ user ∷ []))
add_more files x user old users a lt = record {
  count = length-set users x (links_at users x ++ user ∷ []) ∙ a.count;
  users = λ i j. pushed users x user lt i j
      ∙ ap (λ b. b || ((i == user) && (j == x))) (a.users i j)
      ∙ gathered (is_among (links_at old j) i) (i == user) (is_among files j) (j == x)
      ∙ ap (λ b. is_among (links_at old j) i || ((i == user) && b)) (sym (list_any-append (λ k. j == k) files (x ∷ [])));
}

-- ---- so many files
pub record UsersBelow (n : ℕ) (links users : List (List ℕ)) : Type 0 where
  pub count : length users ≡ length links
  pub refer : (i j : ℕ) → is_among (links_at users j) i ≡ (ltb i n && is_among (links_at links i) j)

none_of : (n i j : ℕ) → is_among (links_at (replicate n []) j) i ≡ false
none_of zero i j = refl
none_of (suc n) i zero = refl
none_of (suc n) i (suc j) = none_of n i j

pub below_none : (links : List (List ℕ)) → UsersBelow 0 links (replicate (length links) [])
below_none links = record {
  count = length-replicate (length links) [];
  refer = λ i j. none_of (length links) i j ∙ ap (λ b. b && is_among (links_at links i) j) (sym (le-ltb i 0 (omega arith)));
}

or_false : (a : Bool) → (a || false) ≡ a
or_false true = refl
or_false false = refl

pub below_more : (n : ℕ) (links users more : List (List ℕ)) → UsersBelow n links users → AddsUser (links_at links n) n users more → UsersBelow (n + 1) links more
below_more n links users more u a = record {
  count = a.count ∙ u.count;
  refer = λ i j. a.users i j ∙ ap (λ b. b || ((i == n) && is_among (links_at links n) j)) (u.refer i j) ∙ at i j (cases_order i n);
}
  where
    tests : Bool → Bool → ℕ → ℕ → Bool
    tests lt eq i j = (lt && is_among (links_at links i) j) || (eq && is_among (links_at links n) j)

    at : (i j : ℕ) → (i ≡ n) ⊎ ((i < n) ⊎ (n < i)) → tests (ltb i n) (i == n) i j ≡ (ltb i (n + 1) && is_among (links_at links i) j)
    at i j (inl e) =
        ap (λ b. tests b (i == n) i j) (le-ltb i n (omega arith)) ∙ ap (λ b. tests false b i j) (eq-eqb i n e)
        ∙ ap (λ k. is_among (links_at links k) j) (sym e) ∙ ap (λ b. b && is_among (links_at links i) j) (sym (lt-ltb i (n + 1) (omega arith)))
    at i j (inr (inl lt)) =
        ap (λ b. tests b (i == n) i j) (lt-ltb i n lt) ∙ ap (λ b. tests true b i j) (ne_eqb i n (λ e. omega arith))
        ∙ or_false (is_among (links_at links i) j) ∙ ap (λ b. b && is_among (links_at links i) j) (sym (lt-ltb i (n + 1) (omega arith)))
    at i j (inr (inr gt)) =
        ap (λ b. tests b (i == n) i j) (le-ltb i n (omega arith)) ∙ ap (λ b. tests false b i j) (ne_eqb i n (λ e. omega arith))
        ∙ ap (λ b. b && is_among (links_at links i) j) (sym (le-ltb i (n + 1) (omega arith)))

pub below_all : (n : ℕ) (links users : List (List ℕ)) → length links ≤ n → UsersBelow n links users → AreUsers links users
below_all n links users le u = record { count = u.count; refer = λ i j. u.refer i j ∙ at i j (cases_order i n) }
  where
    past : (i j : ℕ) → n ≤ i → (ltb i n && is_among (links_at links i) j) ≡ is_among (links_at links i) j
    past i j ge = ap (λ b. b && is_among (links_at links i) j) (le-ltb i n ge) ∙ ap (λ l. is_among l j) (sym (get_or_past links i [] (omega arith)))

    at : (i j : ℕ) → (i ≡ n) ⊎ ((i < n) ⊎ (n < i)) → (ltb i n && is_among (links_at links i) j) ≡ is_among (links_at links i) j
    at i j (inl e) = past i j (omega arith)
    at i j (inr (inl lt)) = ap (λ b. b && is_among (links_at links i) j) (lt-ltb i n lt)
    at i j (inr (inr gt)) = past i j (omega arith)
