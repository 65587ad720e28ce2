-- A list has one stable sort.
use Rattle.std.proofs.Common.{◌≡◌, suc, ◌+◌, Bool, true, false, cond, List, [], ◌∷◌, refl, sym, ap, ◌∙◌, subst, arith, Contains, add-one}
use Rattle.std.specs.Cmp.{IsStrictWeakOrder}
use Rattle.std.specs.List.{filter}
use Rattle.std.specs.List.Sorted.{IsSortedBy, ties}
use Rattle.std.proofs.lemmas.List.Sorted.{sorted_far}

module _ {X : Type 0} (lt : X → X → Bool) (o : IsStrictWeakOrder lt) where
  irreflexive : (b : Bool) (x : X) → lt x x ≡ b → lt x x ≡ false
  irreflexive true x e = o.one_way x x e
  irreflexive false x e = e

  tie : (x y : X) → lt x y ≡ false → lt y x ≡ false → ties lt x y ≡ true
  tie x y e f = rw (e, f) refl

  tie_self : (x : X) → ties lt x x ≡ true
  tie_self x = let e = irreflexive (lt x x) x refl in tie x x e e

  -- the first that passes a test is of the list
  found : (test : X → Bool) (xs : List X) (y : X) (zs : List X) → filter test xs ≡ y ∷ zs → Contains xs y
  found test [] y zs e = absurd (cc)
  found test (x ∷ xs) y zs e = step (test x) e (found test xs y zs)
    where
      step : (b : Bool) → cond b (x ∷ filter test xs) (filter test xs) ≡ y ∷ zs → (filter test xs ≡ y ∷ zs → Contains xs y) → Contains (x ∷ xs) y
      step true f later = let g : x ≡ y = cc in (0, omega arith, g)
      step false f later = let w = later f in (suc w.0, (let l = w.1 in omega arith), w.2)

  -- no later element is less than the first
  none_less : (x : X) (xs : List X) (y : X) → IsSortedBy lt (x ∷ xs) → Contains (x ∷ xs) y → lt y x ≡ false
  none_less x xs y up (k, short, e) = subst (λ z. lt z x ≡ false) e (sorted_far lt o (x ∷ xs) up 0 k y (omega arith) short)

  sorted_tail : (x : X) (xs : List X) → IsSortedBy lt (x ∷ xs) → IsSortedBy lt xs
  sorted_tail x xs up k d low short =
      let a : k + 1 ≡ suc k = add-one k in
      let b : suc k + 1 ≡ suc (k + 1) = omega arith in
      rw b at (up (suc k) d (omega arith) (omega arith))

  first_filtered : (test : X → Bool) (x : X) (xs : List X) → test x ≡ true → filter test (x ∷ xs) ≡ x ∷ filter test xs
  first_filtered test x xs e = rw e refl

  rest_filtered : (test : X → Bool) (x y : X) (xs ys : List X) → x ≡ y → filter test (x ∷ xs) ≡ filter test (y ∷ ys) → filter test xs ≡ filter test ys
  rest_filtered test x y xs ys same e = step (test x) (e ∙ ap (λ z. filter test (z ∷ ys)) (sym same))
    where
      step : (b : Bool) → cond b (x ∷ filter test xs) (filter test xs) ≡ cond b (x ∷ filter test ys) (filter test ys) → filter test xs ≡ filter test ys
      step true f = cc
      step false f = f

  pub one_order : (xs ys : List X) → IsSortedBy lt xs → IsSortedBy lt ys → ((x : X) → filter (ties lt x) xs ≡ filter (ties lt x) ys) → xs ≡ ys
  one_order [] [] up down same = refl
  one_order [] (y ∷ ys) up down same = let e : [] ≡ y ∷ filter (ties lt y) ys = same y ∙ first_filtered (ties lt y) y ys (tie_self y) in absurd (cc)
  one_order (x ∷ xs) [] up down same = let e : [] ≡ x ∷ filter (ties lt x) xs = sym (same x) ∙ first_filtered (ties lt x) x xs (tie_self x) in absurd (cc)
  one_order (x ∷ xs) (y ∷ ys) up down same =
      let y_in = found (ties lt y) (x ∷ xs) y _ (same y ∙ first_filtered (ties lt y) y ys (tie_self y)) in
      let x_in = found (ties lt x) (y ∷ ys) x _ (sym (same x) ∙ first_filtered (ties lt x) x xs (tie_self x)) in
      let tied : ties lt x y ≡ true = tie x y (none_less y ys x down x_in) (none_less x xs y up y_in) in
      let heads : x ∷ filter (ties lt x) xs ≡ y ∷ filter (ties lt x) ys = sym (first_filtered (ties lt x) x xs (tie_self x)) ∙ same x ∙ first_filtered (ties lt x) y ys tied in
      let head : x ≡ y = cc in
      let tail : xs ≡ ys = one_order xs ys (sorted_tail x xs up) (sorted_tail y ys down) (λ z. rest_filtered (ties lt z) x y xs ys head (same z)) in
      cc
