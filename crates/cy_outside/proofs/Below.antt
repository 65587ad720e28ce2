-- Where a path stands in a folder, and its first name.
use Rattle.std.proofs.Common.{◌≡◌, ◌≢◌, ◌∙◌, ◌⊎◌, inl, inr, ℕ, ◌≤◌, ◌==◌, Bool, true, false, cond, not, T, List, [], ◌∷◌, ◌++◌, Option, Some, None, refl, sym, ap, subst, take, length, arith}
use Rattle.std.proofs.lemmas.Bool.{eqb-true, eq-eqb, cases_lt}
use Rattle.std.proofs.lemmas.Grind.{common_steps}
use Rattle.std.proofs.lemmas.List.{append_cancel_left}
use Rattle.std.proofs.lemmas.List.Folds.{list_any_none, list_any_at}
use Rattle.std.proofs.lemmas.List.Sums.{fails_before_first, passes_at_first, split_at_first, prefix_len-le-length}
use Rattle.std.specs.Prelude.{is_some, unwrap_or, MatchOption}
use Rattle.std.specs.Option.{option_copied}
use Rattle.std.specs.Borrow.{Bor}
use Rattle.std.specs.List.{list_any, position_or_len, before_first, after_first}
use Rattle.cy_outside.specs.Files.{rest_in}

pub same_some : {X : Type 0} (x y : X) → Some x ≡ Some y → x ≡ y
same_some x y e = ap (λ o. unwrap_or o x) e

pub not_none : {X : Type 0} (x : X) → None ≡ Some x → ⊥
not_none x e = subst T (sym (ap is_some e)) tt

cond_some : {X : Type 0} (t : Bool) (o : Option X) (x : X) → cond t o None ≡ Some x → (t ≡ true) × (o ≡ Some x)
cond_some true o x e = (refl, e)
cond_some false o x e = absurd (not_none x e)

-- a path below a folder
pub rest_in-below : (folder rest : List ℕ) → rest_in folder (folder ++ 47 ∷ rest) ≡ Some rest
rest_in-below [] rest = refl
rest_in-below (a ∷ folder) rest = ap (λ t. cond t (rest_in folder (folder ++ 47 ∷ rest)) None) (eq-eqb a a refl) ∙ rest_in-below folder rest

pub below-rest_in : (folder path rest : List ℕ) → rest_in folder path ≡ Some rest → path ≡ folder ++ 47 ∷ rest
below-rest_in [] [] rest e = absurd (not_none rest e)
below-rest_in [] (b ∷ path) rest e =
    let s = cond_some (b == 47) (Some path) rest e in
    ap (λ c. c ∷ path) (eqb-true b 47 s.0) ∙ ap (λ p. 47 ∷ p) (same_some path rest s.1)
below-rest_in (a ∷ folder) [] rest e = absurd (not_none rest e)
below-rest_in (a ∷ folder) (b ∷ path) rest e =
    let s = cond_some (a == b) (rest_in folder path) rest e in
    ap (λ c. c ∷ path) (sym (eqb-true a b s.0)) ∙ ap (λ p. a ∷ p) (below-rest_in folder path rest s.1)

-- nothing, or something
pub nothing_or : {X : Type 0} (o : Option X) → (o ≡ None) ⊎ ((x : X) × (o ≡ Some x))
nothing_or None = inl refl
nothing_or (Some x) = inr (x, refl)

pub rest_in-None : (folder path : List ℕ) → ((rest : List ℕ) → path ≡ folder ++ 47 ∷ rest → ⊥) → rest_in folder path ≡ None
rest_in-None folder path outside = elim (nothing_or (rest_in folder path)) as (λ _. rest_in folder path ≡ None) [
  | inl e ↦ e
  | inr s ↦ absurd (outside s.0 (below-rest_in folder path s.0 s.1))
]

-- behind a folder's path, what stands behind the slash
pub rest_in-behind : (folder path rest : List ℕ) (r : Option (Bor (List ℕ))) → path ≡ folder ++ rest
    → MatchOption r ((more : List ℕ) → rest ≢ 47 ∷ more) (λ x. rest ≡ 47 ∷ x.now) → option_copied r ≡ rest_in folder path
rest_in-behind folder path rest None e m =
    sym (rest_in-None folder path (λ more h. m more (append_cancel_left folder rest (47 ∷ more) (sym e ∙ h))))
rest_in-behind folder path rest (Some x) e m =
    sym (rest_in-below folder x.now) ∙ ap (rest_in folder) (ap (λ r. folder ++ r) (sym m) ∙ sym e)

-- no slash up to the end
pub no_slash : (path : List ℕ) → position_or_len (λ b. b == 47) path ≡ length path → list_any (λ b. b == 47) path ≡ false
no_slash path e = list_any_none (λ b. b == 47) path (λ k d l. fails_before_first (λ b. b == 47) path k d (omega (arith, l, e)))

take_all : (path : List ℕ) (n : ℕ) → length path ≤ n → take n path ≡ path
take_all path n h = grind (arith, common_steps)

-- a path of one name
pub name_alone : (path : List ℕ) → list_any (λ b. b == 47) path ≡ false → before_first (λ b. b == 47) path ≡ path
name_alone path none = elim (cases_lt (position_or_len (λ b. b == 47) path) (length path)) as (λ _. before_first (λ b. b == 47) path ≡ path) [
  | inl l ↦ absurd (subst T (sym (list_any_at (λ b. b == 47) path _ 0 l (passes_at_first (λ b. b == 47) path 0 l)) ∙ none) tt)
  | inr g ↦ take_all path _ g
]

-- a path of more names
pub name_and_more : (path : List ℕ) → list_any (λ b. b == 47) path ≡ true → (rest : List ℕ) × (path ≡ before_first (λ b. b == 47) path ++ 47 ∷ rest)
name_and_more path some = elim (cases_lt (position_or_len (λ b. b == 47) path) (length path)) [
  | inl l ↦ (
    after_first (λ b. b == 47) path,
    split_at_first (λ b. b == 47) path 0 l
        ∙ ap (λ c. before_first (λ b. b == 47) path ++ c ∷ after_first (λ b. b == 47) path) (eqb-true _ 47 (passes_at_first (λ b. b == 47) path 0 l)),
  )
  | inr g ↦ absurd (subst T (sym some ∙ no_slash path (omega (arith, g, prefix_len-le-length (λ b. not (b == 47)) path))) tt)
]
