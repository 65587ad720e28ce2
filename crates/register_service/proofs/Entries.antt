-- What a name finds among registers.
use Rattle.std.proofs.Common.{◌≡◌, ◌≢◌, ℕ, zero, suc, ◌+◌, ◌<◌, true, false, List, [], ◌∷◌, Option, Some, None, length, get_or, refl, sym, ap, subst, ◌∙◌, inl, inr, arith}
use Rattle.std.proofs.lemmas.Bool.{cases_Bool, cond-true, cond-false}
use Rattle.std.proofs.lemmas.Slice.Eq.{bytes_eq-Decides}
use Rattle.std.specs.List.{All, AllPairs}
use Rattle.std.specs.Str.{bytes_eq}
use Rattle.std_types.specs.declared.registers.Register.{Register}
use Rattle.register_service.specs.Kept.{IsAt}
use Rattle.register_service.specs.RegisterMap.{entry, entry_from}

pub some_inj : {A : Type 0} (a b : A) → Some a ≡ Some b → a ≡ b
some_inj a b e = cc

-- a register that was found, with its number
abbrev at_number : ℕ → Register → Option (ℕ × Register)
at_number n x = Some (n, x)

abbrev or_else : Option (ℕ × Register) → ℕ × Register → ℕ × Register
or_else None p = p
or_else (Some q) p = q

parts_same : (n k : ℕ) (x r : Register) → at_number n x ≡ at_number k r → (n ≡ k) × (x ≡ r)
parts_same n k x r e = (ap (λ o. (or_else o (n, x)).0) e, ap (λ o. (or_else o (n, x)).1) e)

pub names_apart : (a b : List ℕ) → a ≢ b → bytes_eq a b ≡ false
names_apart a b h = elim (cases_Bool (bytes_eq a b)) [
  | inl holds ↦ absurd (h ((bytes_eq-Decides a b).0 holds))
  | inr fails ↦ fails
]

-- the register r has this name, and the number k where the first one has the number n
pub record Found (xs : List Register) (n : ℕ) (name : List ℕ) (k : ℕ) (r : Register) : Type 0 where
  pub place : ℕ
  pub is : k ≡ n + place
  pub low : place < length xs
  pub at : r ≡ get_or xs place r
  pub named : r.name ≡ name

found_here : (x : Register) (xs : List Register) (n : ℕ) (name : List ℕ) (k : ℕ) (r : Register) → bytes_eq x.name name ≡ true → at_number n x ≡ at_number k r
    → Found (x ∷ xs) n name k r
found_here x xs n name k r holds e =
    let parts : (n ≡ k) × (x ≡ r) = parts_same n k x r e in
    let same : r ≡ x = sym parts.1 in
    let number : n ≡ k = parts.0 in
    record {
      place = 0;
      is = omega (arith, number);
      low = omega arith;
      at = same;
      named = ap (λ (y : Register). y.name) same ∙ (bytes_eq-Decides x.name name).0 holds;
    }

found_next : (x : Register) (xs : List Register) (n : ℕ) (name : List ℕ) (k : ℕ) (r : Register) → Found xs (n + 1) name k r → Found (x ∷ xs) n name k r
found_next x xs n name k r f = record {
  place = suc f.place;
  is = omega (arith, f.is);
  low = omega (arith, f.low);
  at = f.at;
  named = f.named;
}

entry_found : (n : ℕ) (name : List ℕ) (xs : List Register) (k : ℕ) (r : Register) → entry_from n name xs ≡ Some (k, r) → Found xs n name k r
entry_found n name [] k r e = cc
entry_found n name (x ∷ xs) k r e = elim (cases_Bool (bytes_eq x.name name)) [
  | inl holds ↦ found_here x xs n name k r holds
      (sym (cond-true (bytes_eq x.name name) (Some (n, x)) (entry_from (n + 1) name xs) holds) ∙ e)
  | inr fails ↦ found_next x xs n name k r
      (entry_found (n + 1) name xs k r (sym (cond-false (bytes_eq x.name name) (Some (n, x)) (entry_from (n + 1) name xs) fails) ∙ e))
]

-- what a name finds is a register with this name and number
pub found_at : (name : List ℕ) (xs : List Register) (k : ℕ) (r : Register) → entry name xs ≡ Some (k, r) → IsAt xs k r
found_at name xs k r e =
    let f : Found xs 0 name k r = entry_found 0 name xs k r e in
    let same : f.place ≡ k = omega (arith, f.is) in
    (subst (λ j. j < length xs) same f.low, f.at ∙ ap (λ j. get_or xs j r) same)

pub found_name : (name : List ℕ) (xs : List Register) (k : ℕ) (r : Register) → entry name xs ≡ Some (k, r) → r.name ≡ name
found_name name xs k r e = (entry_found 0 name xs k r e).named

-- the name of a register finds it, where names are distinct
entry_at : (n : ℕ) (xs : List Register) (i : ℕ) (r : Register) → AllPairs (λ r s. r.name ≢ s.name) xs → i < length xs → r ≡ get_or xs i r
    → entry_from n r.name xs ≡ Some (n + i, r)
entry_at n [] i r d h e = absurd (omega arith)
entry_at n (x ∷ xs) zero r d h e =
    let number : n ≡ n + 0 = omega arith in
    cond-true (bytes_eq x.name r.name) (Some (n, x)) (entry_from (n + 1) r.name xs) ((bytes_eq-Decides x.name r.name).1 (ap (λ (y : Register). y.name) (sym e)))
    ∙ ap (λ y. Some (n, y)) (sym e)
    ∙ ap (λ m. Some (m, r)) number
entry_at n (x ∷ xs) (suc i) r d h e =
    let low : i < length xs = omega arith in
    let apart : x.name ≢ r.name = λ same. d 0 (suc i) r (omega arith) h (same ∙ ap (λ (y : Register). y.name) e) in
    let number : n + 1 + i ≡ n + suc i = omega arith in
    cond-false (bytes_eq x.name r.name) (Some (n, x)) (entry_from (n + 1) r.name xs) (names_apart x.name r.name apart)
    ∙ entry_at (n + 1) xs i r (λ a b z less within. d (suc a) (suc b) z (omega arith) (omega arith)) low e
    ∙ ap (λ m. Some (m, r)) number

pub at_entry : (xs : List Register) (i : ℕ) (r : Register) (name : List ℕ) → AllPairs (λ r s. r.name ≢ s.name) xs → IsAt xs i r → r.name ≡ name
    → entry name xs ≡ Some (i, r)
at_entry xs i r name d at same =
    let number : 0 + i ≡ i = omega arith in
    ap (λ n. entry n xs) (sym same) ∙ entry_at 0 xs i r d at.0 at.1 ∙ ap (λ m. Some (m, r)) number

-- a name that no register has finds nothing
none_from : (n : ℕ) (name : List ℕ) (xs : List Register) → All (λ r. r.name ≢ name) xs → entry_from n name xs ≡ None
none_from n name [] h = refl
none_from n name (x ∷ xs) h =
    cond-false (bytes_eq x.name name) (Some (n, x)) (entry_from (n + 1) name xs) (names_apart x.name name (h 0 x (omega arith)))
    ∙ none_from (n + 1) name xs (λ i d less. h (suc i) d (omega arith))

pub unknown_entry : (name : List ℕ) (xs : List Register) → All (λ r. r.name ≢ name) xs → entry name xs ≡ None
unknown_entry name xs h = none_from 0 name xs h
