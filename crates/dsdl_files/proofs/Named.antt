-- Paths as they are named below the root.
use Rattle.std.proofs.Common.{◌≡◌, ◌∙◌, ℕ, true, List, [], ◌∷◌, ◌++◌, refl, sym, ap, map, get_or}
use Rattle.std.proofs.lemmas.List.Elements.{recursion_from_All, Contains-get_or}
use Rattle.std.specs.Prelude.{codes, unwrap_or}
use Rattle.std.specs.Ordering.{ordering_then}
use Rattle.std.specs.Cmp.{nat_cmp_total}
use Rattle.std.proofs.lemmas.Cmp.{tied_itself}
use Rattle.std.specs.List.{All, AllByRecursion}
use Rattle.std.specs.List.Sorted.{IsStrictlySortedBy}
use Rattle.cy_outside.specs.Files.{rest_in}
use Rattle.dsdl_files.specs.Order.{by_bytes, IsAscending}
use Rattle.dsdl_files.specs.Folders.{is_below, name_below}
use Rattle.dsdl_files.proofs.Members.{In, contains_in}
use Rattle.dsdl_files.proofs.Ordered.{Before}
use Rattle.dsdl_files.proofs.Below.{under, rest_in-below}

-- ---- the order of names is that of paths

same_front : (root a b : List ℕ) → by_bytes (root ++ 47 ∷ a) (root ++ 47 ∷ b) ≡ by_bytes a b
same_front [] a b = refl
same_front (r ∷ root) a b =
    ap (λ o. ordering_then o (by_bytes (root ++ 47 ∷ a) (root ++ 47 ∷ b))) (tied_itself nat_cmp_total r) ∙ same_front root a b

name_of : (root path : List ℕ) → is_below root path ≡ true → path ≡ root ++ 47 ∷ name_below root path
name_of root path e =
    let u = under root path e in
    let named : name_below root path ≡ u.rest =
    ap (λ p. unwrap_or (rest_in root p) (codes ".")) u.is ∙ ap (λ o. unwrap_or o (codes ".")) (rest_in-below root u.rest) in
    u.is ∙ ap (λ r. root ++ 47 ∷ r) (sym named)

before_named : (root p q : List ℕ) → is_below root p ≡ true → is_below root q ≡ true → Before p q → Before (name_below root p) (name_below root q)
before_named root p q e f l =
    sym (same_front root (name_below root p) (name_below root q))
    ∙ ap (λ a. by_bytes a (root ++ 47 ∷ name_below root q)) (sym (name_of root p e)) ∙ ap (by_bytes p) (sym (name_of root q f)) ∙ l

all_named : (root p : List ℕ) (ps : List (List ℕ)) → is_below root p ≡ true → AllByRecursion (λ q. is_below root q ≡ true) ps → AllByRecursion (Before p) ps
    → AllByRecursion (Before (name_below root p)) (map (name_below root) ps)
all_named root p [] e f l = tt
all_named root p (q ∷ ps) e f l = (before_named root p q e f.0 l.0, all_named root p ps e f.1 l.1)

names_sorted : (root : List ℕ) (ps : List (List ℕ)) → AllByRecursion (λ q. is_below root q ≡ true) ps → IsAscending ps → IsAscending (map (name_below root) ps)
unfolding IsStrictlySortedBy
names_sorted root [] f s = tt
names_sorted root (p ∷ ps) f s = (all_named root p ps f.0 f.1 s.0, names_sorted root ps f.1 s.1)

pub names_ascend : (root : List ℕ) (ps : List (List ℕ)) → All (λ q. is_below root q ≡ true) ps → IsAscending ps → IsAscending (map (name_below root) ps)
names_ascend root ps f s = names_sorted root ps (recursion_from_All (λ q. is_below root q ≡ true) ps f) s

-- ---- as a list says it

pub all_below : (root : List ℕ) (ps : List (List ℕ)) → ((p : List ℕ) → In p ps → is_below root p ≡ true) → All (λ q. is_below root q ≡ true) ps
all_below root ps f = λ k d l. f (get_or ps k d) (contains_in ps (get_or ps k d) (Contains-get_or ps k d l))
