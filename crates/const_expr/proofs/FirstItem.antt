-- The first item of a list that passes a test, and its place
use Rattle.std.proofs.Common.{◌≡◌, ℕ, suc, ◌+◌, ◌<◌, true, false, Bool, List, [], ◌∷◌, ◌++◌, length, map, get_or, Option, Some, None, Bor, cond, refl, sym, ap, ◌∙◌, arith}
use Rattle.std.specs.Prelude.{slice_get, is_some}
use Rattle.std.specs.Option.{option_copied}
use Rattle.std.specs.Slice.{IsItemAt}
use Rattle.std.specs.List.{position_from}
use Rattle.std.proofs.lemmas.Bool.{false≢true}
use Rattle.std.proofs.lemmas.Option.{slice_get_past, slice_get-get_or}

module _ {X : Type 0} (p : X → Bool) where
  -- what stands at the place
  pub record Stands {Y : Type 0} (f : X → Y) (y : Y) (xs : List X) (i n : ℕ) : Type 0 where
    pub place : ℕ
    pub counted : n ≡ i + place
    pub within : place < length xs
    pub found : (x : X) → x ≡ get_or xs place x → f x ≡ y

  module _ {Y : Type 0} (f : X → Y) (d : Y) where
    -- what f says of the first item that passes, or d
    unfoldable pub first_in : List X → Y
    first_in [] = d
    first_in (x ∷ xs) = cond (p x) (f x) (first_in xs)

    stands : (xs : List X) (i n : ℕ) → position_from p i xs ≡ Some n → Stands f (first_in xs) xs i n
    unfolding first_in
    stands [] i n h = absurd (cc)
    stands (x ∷ xs) i n h = at (p x) refl (stands xs (i + 1) n)
      where
        at : (b : Bool) → p x ≡ b → (position_from p (i + 1) xs ≡ Some n → Stands f (first_in xs) xs (i + 1) n) → Stands f (cond (p x) (f x) (first_in xs)) (x ∷ xs) i n
        at true e behind =
            let s : Some i ≡ Some n = ap (λ b. cond b (Some i) (position_from p (i + 1) xs)) (sym e) ∙ h in
            let same : i ≡ n = cc in
            record {
              place = 0;
              counted = omega arith;
              within = omega arith;
              found = λ y there. ap f there ∙ sym (ap (λ b. cond b (f x) (first_in xs)) e);
            }
        at false e behind =
            let s = behind (ap (λ b. cond b (Some i) (position_from p (i + 1) xs)) (sym e) ∙ h) in
            record {
              place = suc s.place;
              counted = (let q = s.counted in omega arith);
              within = (let q = s.within in omega arith);
              found = λ y there. s.found y there ∙ sym (ap (λ b. cond b (f x) (first_in xs)) e);
            }

    pub first_at : (xs : List X) (n : ℕ) (x : X) → position_from p 0 xs ≡ Some n → x ≡ get_or xs n x → f x ≡ first_in xs
    first_at xs n x h there =
        let s = stands xs 0 n h in
        let same : n ≡ s.place = (let q = s.counted in omega arith) in
        s.found x (there ∙ ap (λ k. get_or xs k x) same)

    pub first_missing : (xs : List X) (i : ℕ) → position_from p i xs ≡ None → first_in xs ≡ d
    unfolding first_in
    first_missing [] i h = refl
    first_missing (x ∷ xs) i h = at (p x) refl (first_missing xs (i + 1))
      where
        at : (b : Bool) → p x ≡ b → (position_from p (i + 1) xs ≡ None → first_in xs ≡ d) → cond (p x) (f x) (first_in xs) ≡ d
        at true e behind = let s : Some i ≡ None = ap (λ b. cond b (Some i) (position_from p (i + 1) xs)) (sym e) ∙ h in absurd (cc)
        at false e behind = ap (λ b. cond b (f x) (first_in xs)) e ∙ behind (ap (λ b. cond b (Some i) (position_from p (i + 1) xs)) (sym e) ∙ h)

  pub place_within : (xs : List X) (n : ℕ) → position_from p 0 xs ≡ Some n → n < length xs
  place_within xs n h =
      let zero_of : X → ℕ = λ x. 0 in
      let d : ℕ = 0 in
      let s : Stands zero_of (first_in zero_of d xs) xs 0 n = stands zero_of d xs 0 n h in
      let q : n ≡ 0 + s.place = s.counted in
      let w : s.place < length xs = s.within in
      omega (arith, q, w)

  -- ---- one item more
  pub placed_still : (i n : ℕ) (xs : List X) (x : X) → position_from p i xs ≡ Some n → position_from p i (xs ++ x ∷ []) ≡ Some n
  placed_still i n [] x h = absurd (cc)
  placed_still i n (y ∷ xs) x h = at (p y) refl (placed_still (i + 1) n xs x)
    where
      at : (b : Bool) → p y ≡ b → (position_from p (i + 1) xs ≡ Some n → position_from p (i + 1) (xs ++ x ∷ []) ≡ Some n) → position_from p i (y ∷ xs ++ x ∷ []) ≡ Some n
      at true e behind = ap (λ b. cond b (Some i) (position_from p (i + 1) (xs ++ x ∷ []))) e ∙ ap (λ b. cond b (Some i) (position_from p (i + 1) xs)) (sym e) ∙ h
      at false e behind =
          ap (λ b. cond b (Some i) (position_from p (i + 1) (xs ++ x ∷ []))) e
          ∙ behind (ap (λ b. cond b (Some i) (position_from p (i + 1) xs)) (sym e) ∙ h)

  pub placed_last : (i : ℕ) (xs : List X) (x : X) → position_from p i xs ≡ None → p x ≡ true → position_from p i (xs ++ x ∷ []) ≡ Some (i + length xs)
  placed_last i [] x h e = ap (λ b. cond b (Some i) (position_from p (i + 1) [])) e ∙ ap Some (let n : i ≡ i + 0 = omega arith in n)
  placed_last i (y ∷ xs) x h e = at (p y) refl (λ g. placed_last (i + 1) xs x g e)
    where
      at : (b : Bool) → p y ≡ b → (position_from p (i + 1) xs ≡ None → position_from p (i + 1) (xs ++ x ∷ []) ≡ Some ((i + 1) + length xs)) → position_from p i (y ∷ xs ++ x ∷ []) ≡ Some (i + suc (length xs))
      at true f behind = let s : Some i ≡ None = ap (λ b. cond b (Some i) (position_from p (i + 1) xs)) (sym f) ∙ h in absurd (cc)
      at false f behind =
          ap (λ b. cond b (Some i) (position_from p (i + 1) (xs ++ x ∷ []))) f
          ∙ behind (ap (λ b. cond b (Some i) (position_from p (i + 1) xs)) (sym f) ∙ h)
          ∙ ap Some (let n : (i + 1) + length xs ≡ i + suc (length xs) = omega arith in n)

  pub placed_apart : (i : ℕ) (xs : List X) (x : X) → p x ≡ false → position_from p i (xs ++ x ∷ []) ≡ position_from p i xs
  placed_apart i [] x e = ap (λ b. cond b (Some i) (position_from p (i + 1) [])) e
  placed_apart i (y ∷ xs) x e = ap (λ o. cond (p y) (Some i) o) (placed_apart (i + 1) xs x e)

-- a place among what g says of the items
pub place_of_map : {X Y : Type 0} (g : X → Y) (p : Y → Bool) (i : ℕ) (xs : List X) → position_from p i (map g xs) ≡ position_from (λ x. p (g x)) i xs
place_of_map g p i [] = refl
place_of_map g p i (x ∷ xs) = ap (cond (p (g x)) (Some i)) (place_of_map g p (i + 1) xs)

-- what a read of a slice lends
pub lent : {X : Type 0} (xs : List X) (i : ℕ) (r : Option (Bor X)) → IsItemAt xs i r → option_copied r ≡ slice_get xs i
lent xs i None h = sym (slice_get_past xs i h.3)
lent xs i (Some x) h = sym (slice_get-get_or xs i x.now h.3.0 ∙ ap Some (sym h.1))

pub is_none : {A : Type 0} (o : Option A) → is_some o ≡ false → o ≡ None
is_none None h = refl
is_none (Some x) h = absurd (false≢true (sym h))

pub is_some_of : {A : Type 0} (o : Option A) → is_some o ≡ true → (x : A) × (o ≡ Some x)
is_some_of None h = absurd (false≢true h)
is_some_of (Some x) h = (x, refl)
