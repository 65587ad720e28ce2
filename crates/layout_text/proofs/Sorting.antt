-- A list has a stable sort.
use Rattle.std.proofs.Common.{◌≡◌, zero, suc, ◌+◌, Bool, true, false, cond, not, ◌&&◌, List, [], ◌∷◌, inl, inr, refl, sym, ap, ◌∙◌, arith}
use Rattle.std.specs.Cmp.{IsStrictWeakOrder}
use Rattle.std.specs.List.{filter}
use Rattle.std.specs.List.Sorted.{IsPermutation, IsSortedBy, ties}
use Rattle.std.proofs.lemmas.Bool.{cases_Bool, false≢true}
use Rattle.std.proofs.lemmas.List.Sorted.{IsPermutation-refl, IsPermutation-cons, IsPermutation-trans, IsPermutation-middle}

module _ {X : Type 0} (lt : X → X → Bool) where
  -- in front of the first that isn't less
  abbrev insert : X → List X → List X
  insert x [] = x ∷ []
  insert x (y ∷ ys) = cond (lt y x) (y ∷ insert x ys) (x ∷ y ∷ ys)

  abbrev pub sort : List X → List X
  sort [] = []
  sort (x ∷ xs) = insert x (sort xs)

  moved : (x : X) (ys : List X) → IsPermutation (x ∷ ys) (insert x ys)
  moved x [] = IsPermutation-refl (x ∷ [])
  moved x (y ∷ ys) = step (lt y x) (moved x ys)
    where
      step : (b : Bool) → IsPermutation (x ∷ ys) (insert x ys) → IsPermutation (x ∷ y ∷ ys) (cond b (y ∷ insert x ys) (x ∷ y ∷ ys))
      step true later = IsPermutation-trans _ _ _ (IsPermutation-middle (x ∷ []) y ys) (IsPermutation-cons y _ _ later)
      step false later = IsPermutation-refl (x ∷ y ∷ ys)

  pub sort_moves : (xs : List X) → IsPermutation xs (sort xs)
  sort_moves [] = IsPermutation-refl []
  sort_moves (x ∷ xs) = IsPermutation-trans _ _ _ (IsPermutation-cons x _ _ (sort_moves xs)) (moved x (sort xs))

  sorted_none : IsSortedBy lt []
  sorted_none k d low short = absurd (omega arith)

  sorted_one : (x : X) → IsSortedBy lt (x ∷ [])
  sorted_one x k d low short = absurd (omega arith)

  sorted_more : (x y : X) (ys : List X) → lt y x ≡ false → IsSortedBy lt (y ∷ ys) → IsSortedBy lt (x ∷ y ∷ ys)
  sorted_more x y ys e up zero d low short = e
  sorted_more x y ys e up (suc k) d low short =
      let b : suc k + 1 ≡ suc (k + 1) = omega arith in
      rw b (up k d (omega arith) (omega arith))

  sorted_rest : (x : X) (ys : List X) → IsSortedBy lt (x ∷ ys) → IsSortedBy lt ys
  sorted_rest x ys up k d low short =
      let b : suc k + 1 ≡ suc (k + 1) = omega arith in
      rw b at (up (suc k) d (omega arith) (omega arith))

  module _ (o : IsStrictWeakOrder lt) where
    -- behind one that is less
    sorted_behind : (x y : X) (ys : List X) → lt x y ≡ false → IsSortedBy lt (y ∷ ys) → IsSortedBy lt (insert x ys) → IsSortedBy lt (y ∷ insert x ys)
    sorted_behind x y [] e up down = sorted_more y x [] e down
    sorted_behind x y (z ∷ zs) e up down = step (lt z x) down
      where
        step : (b : Bool) → IsSortedBy lt (cond b (z ∷ insert x zs) (x ∷ z ∷ zs)) → IsSortedBy lt (y ∷ cond b (z ∷ insert x zs) (x ∷ z ∷ zs))
        step true below = sorted_more y z (insert x zs) (up 0 y (omega arith) (omega arith)) below
        step false below = sorted_more y x (z ∷ zs) e below

    sorted_insert : (x : X) (ys : List X) → IsSortedBy lt ys → IsSortedBy lt (insert x ys)
    sorted_insert x [] up = sorted_one x
    sorted_insert x (y ∷ ys) up = step (lt y x) refl (sorted_insert x ys (sorted_rest y ys up))
      where
        step : (b : Bool) → lt y x ≡ b → IsSortedBy lt (insert x ys) → IsSortedBy lt (cond b (y ∷ insert x ys) (x ∷ y ∷ ys))
        step true e later = sorted_behind x y ys (o.one_way y x e) up later
        step false e later = sorted_more x y ys e up

    pub sort_sorts : (xs : List X) → IsSortedBy lt (sort xs)
    sort_sorts [] = sorted_none
    sort_sorts (x ∷ xs) = sorted_insert x (sort xs) (sort_sorts xs)

    neither : (a b : Bool) → not a && not b ≡ true → (a ≡ false) × (b ≡ false)
    neither true b e = absurd (false≢true e)
    neither false true e = absurd (false≢true e)
    neither false false e = (refl, refl)

    both : (a b : Bool) → a && b ≡ true → (a ≡ true) × (b ≡ true)
    both true true e = (refl, refl)
    both true false e = absurd (false≢true e)
    both false b e = absurd (false≢true e)

    -- two of which one is less don't both tie with a third
    one_ties : (x y z : X) → lt y x ≡ true → ties lt z x && ties lt z y ≡ false
    one_ties x y z less = elim (cases_Bool (ties lt z x && ties lt z y)) [
      | inl t ↦
          let w = both (ties lt z x) (ties lt z y) t in
          let a = neither (lt z x) (lt x z) w.0 in
          let b = neither (lt z y) (lt y z) w.1 in
          absurd (false≢true (sym (o.chain y z x b.1 a.0) ∙ less))
      | inr f ↦ f
    ]

    -- two neighbours of which one at most is kept change places
    swapped : (a b : Bool) (x y : X) (l : List X) → a && b ≡ false →
        cond b (y ∷ cond a (x ∷ l) l) (cond a (x ∷ l) l) ≡ cond a (x ∷ cond b (y ∷ l) l) (cond b (y ∷ l) l)
    swapped true true x y l one = absurd (false≢true (sym one))
    swapped true false x y l one = refl
    swapped false true x y l one = refl
    swapped false false x y l one = refl

    kept : (z x : X) (ys : List X) → filter (ties lt z) (insert x ys) ≡ filter (ties lt z) (x ∷ ys)
    kept z x [] = refl
    kept z x (y ∷ ys) = step (lt y x) refl (kept z x ys)
      where
        step : (b : Bool) → lt y x ≡ b → filter (ties lt z) (insert x ys) ≡ filter (ties lt z) (x ∷ ys) →
            filter (ties lt z) (cond b (y ∷ insert x ys) (x ∷ y ∷ ys)) ≡ filter (ties lt z) (x ∷ y ∷ ys)
        step true e later =
            ap (λ l. cond (ties lt z y) (y ∷ l) l) later
            ∙ swapped (ties lt z x) (ties lt z y) x y (filter (ties lt z) ys) (one_ties x y z e)
        step false e later = refl

    pub sort_keeps : (z : X) (xs : List X) → filter (ties lt z) (sort xs) ≡ filter (ties lt z) xs
    sort_keeps z [] = refl
    sort_keeps z (x ∷ xs) = kept z x (sort xs) ∙ ap (λ l. cond (ties lt z x) (x ∷ l) l) (sort_keeps z xs)
