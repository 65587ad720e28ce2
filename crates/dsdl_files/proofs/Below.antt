-- Where a path stands in a folder.
use Rattle.std.proofs.Common.{◌≡◌, ◌≢◌, ◌∙◌, ◌⊎◌, inl, inr, ℕ, ◌==◌, Bool, true, false, cond, List, [], ◌∷◌, ◌++◌, Option, Some, None, refl, sym, ap, append_assoc}
use Rattle.std.proofs.lemmas.Bool.{eqb-true, eq-eqb}
use Rattle.std.proofs.lemmas.List.{append_cancel_left}
use Rattle.std.specs.Prelude.{is_some, MatchOption}
use Rattle.std.specs.Option.{option_copied}
use Rattle.std.specs.Borrow.{Bor}
use Rattle.std.specs.declared.cmp.Ordering.TheVariants.{Less}
use Rattle.std.specs.Ordering.{ordering_then}
use Rattle.std.specs.Cmp.{nat_cmp_total}
use Rattle.std.proofs.lemmas.Cmp.{tied_itself}
use Rattle.std.specs.Str.{bytes_eq}
use Rattle.cy_outside.specs.Files.{rest_in}
use Rattle.dsdl_files.specs.Order.{by_bytes}
use Rattle.dsdl_files.specs.Folders.{is_below, is_at_or_below}
use Rattle.dsdl_files.proofs.Members.{same_some, not_none, some_of, or_cases, or_left, or_right, same_path, path_itself}

cond_some : {X : Type 0} (t : Bool) (o : Option X) (x : X) → cond t o None ≡ Some x → (t ≡ true) × (o ≡ Some x)
cond_some true o x e = (refl, e)
cond_some false o x e = not_none x e

-- a path below a folder
pub rest_in-below : (folder rest : List ℕ) → rest_in folder (folder ++ 47 ∷ rest) ≡ Some rest
rest_in-below [] rest = refl
rest_in-below (a ∷ folder) rest = ap (λ t. cond t (rest_in folder (folder ++ 47 ∷ rest)) None) (eq-eqb a a refl) ∙ rest_in-below folder rest

pub below-rest_in : (folder path rest : List ℕ) → rest_in folder path ≡ Some rest → path ≡ folder ++ 47 ∷ rest
below-rest_in [] [] rest e = not_none rest e
below-rest_in [] (b ∷ path) rest e =
    let s = cond_some (b == 47) (Some path) rest e in
    ap (λ c. c ∷ path) (eqb-true b 47 s.0) ∙ ap (λ p. 47 ∷ p) (same_some path rest s.1)
below-rest_in (a ∷ folder) [] rest e = not_none rest e
below-rest_in (a ∷ folder) (b ∷ path) rest e =
    let s = cond_some (a == b) (rest_in folder path) rest e in
    ap (λ c. c ∷ path) (sym (eqb-true a b s.0)) ∙ ap (λ p. a ∷ p) (below-rest_in folder path rest s.1)

nothing_or : {X : Type 0} (o : Option X) → (o ≡ None) ⊎ ((x : X) × (o ≡ Some x))
nothing_or None = inl refl
nothing_or (Some x) = inr (x, refl)

pub rest_in-None : (folder path : List ℕ) → ((rest : List ℕ) → path ≡ folder ++ 47 ∷ rest → ⊥) → rest_in folder path ≡ None
rest_in-None folder path outside = elim (nothing_or (rest_in folder path)) as (λ _. rest_in folder path ≡ None) [
  | inl e ↦ e
  | inr s ↦ absurd (outside s.0 (below-rest_in folder path s.0 s.1))
]

-- behind a folder's path, what stands behind the slash
pub rest_in-behind : (folder path rest : List ℕ) (r : Option (Bor (List ℕ))) → path ≡ folder ++ rest
    → MatchOption r ((more : List ℕ) → rest ≢ 47 ∷ more) (λ x. rest ≡ 47 ∷ x.now) → option_copied r ≡ rest_in folder path
rest_in-behind folder path rest None e m =
    sym (rest_in-None folder path (λ more h. m more (append_cancel_left folder rest (47 ∷ more) (sym e ∙ h))))
rest_in-behind folder path rest (Some x) e m =
    sym (rest_in-below folder x.now) ∙ ap (rest_in folder) (ap (λ r. folder ++ r) (sym m) ∙ sym e)

-- ---- at a folder or below it

-- what stands behind a folder's path, and the slash
pub record Under (folder path : List ℕ) : Type 0 where
  pub rest : List ℕ
  pub is : path ≡ folder ++ 47 ∷ rest

pub under : (folder path : List ℕ) → is_below folder path ≡ true → Under folder path
under folder path e = let r = some_of (rest_in folder path) e in record { rest = r.0; is = below-rest_in folder path r.0 r.1 }

pub below : (folder path : List ℕ) → Under folder path → is_below folder path ≡ true
below folder path u = ap (λ p. is_some (rest_in folder p)) u.is ∙ ap is_some (rest_in-below folder u.rest)

abbrev pub under_under : (a b c : List ℕ) → Under a b → Under b c → Under a c
under_under a b c u v = record {
  rest = u.rest ++ 47 ∷ v.rest;
  is = v.is ∙ ap (λ p. p ++ 47 ∷ v.rest) u.is ∙ append_assoc a (47 ∷ u.rest) (47 ∷ v.rest);
}

pub at_or_under : (folder path : List ℕ) → is_at_or_below folder path ≡ true → (path ≡ folder) ⊎ Under folder path
at_or_under folder path e = elim (or_cases (bytes_eq folder path) (is_below folder path) e) [
  | inl h ↦ inl (sym (same_path folder path h))
  | inr t ↦ inr (under folder path t)
]

pub at : (folder path : List ℕ) → path ≡ folder → is_at_or_below folder path ≡ true
at folder path e = or_left (bytes_eq folder path) (is_below folder path) (path_itself folder path (sym e))

pub or_below : (folder path : List ℕ) → Under folder path → is_at_or_below folder path ≡ true
or_below folder path u = or_right (bytes_eq folder path) (is_below folder path) (below folder path u)

-- a folder comes before what is below it
front_before : (folder rest : List ℕ) → by_bytes folder (folder ++ 47 ∷ rest) ≡ Less
front_before [] rest = refl
front_before (a ∷ folder) rest = ap (λ o. ordering_then o (by_bytes folder (folder ++ 47 ∷ rest))) (tied_itself nat_cmp_total a) ∙ front_before folder rest

pub before_under : (folder path : List ℕ) → Under folder path → by_bytes folder path ≡ Less
before_under folder path u = ap (by_bytes folder) u.is ∙ front_before folder u.rest
