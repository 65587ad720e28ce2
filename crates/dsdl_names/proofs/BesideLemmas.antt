-- Dotted names, of two names or more.
use Rattle.std.proofs.Common.{◌≡◌, ℕ, ◌+◌, ◌<◌, ◌≤◌, ◌==◌, Bool, true, false, cond, List, [], ◌∷◌, ◌++◌, length, take, get_or, Option, Some, None, refl, sym, ap, ◌∙◌, append_assoc, arith}
use Rattle.std.proofs.lemmas.List.{take_more}
use Rattle.dsdl_names.specs.Parts.{dotted, cut_last, cut_before, with_first, names_of}
use Rattle.dsdl_names.proofs.PartLemmas.{two_names}

pub dotted_push : (p : List ℕ) (ps : List (List ℕ)) (s : List ℕ) → dotted (p ∷ (ps ++ s ∷ [])) ≡ dotted (p ∷ ps) ++ 46 ∷ s
dotted_push p [] s = refl
dotted_push p (q ∷ ps) s = ap (λ t. p ++ 46 ∷ t) (dotted_push q ps s) ∙ sym (append_assoc p (46 ∷ dotted (q ∷ ps)) (46 ∷ s))

-- one name more
pub dotted_more : (p q : List ℕ) (names : List (List ℕ)) (i : ℕ) (s : List ℕ) → i < length names → s ≡ get_or names i s →
    dotted (p ∷ q ∷ take (i + 1) names) ≡ (dotted (p ∷ q ∷ take i names) ++ 46 ∷ []) ++ s
dotted_more p q names i s lt is =
    ap (λ l. dotted (p ∷ q ∷ l)) taken ∙ dotted_push p (q ∷ take i names) s ∙ sym (append_assoc (dotted (p ∷ q ∷ take i names)) (46 ∷ []) s)
  where
    taken : take (i + 1) names ≡ take i names ++ s ∷ []
    taken = take_more names i s lt ∙ ap (λ z. take i names ++ z ∷ []) (sym is)

pub dotted_two : (p q : List ℕ) (names : List (List ℕ)) → 2 ≤ length (names_of (dotted (p ∷ q ∷ names)))
dotted_two p q names = two_names p (dotted (q ∷ names))

-- a text with no point has one name
one_name : (s : List ℕ) → cut_last 46 s ≡ None → length (names_of s) ≡ 1
one_name [] h = refl
one_name (b ∷ s) h = go (cut_last 46 s) refl h (λ e. one_name s e)
  where
    with_no_point : (t : Bool) (ps : List (List ℕ)) → t ≡ false → length ps ≡ 1 → length (cond t ([] ∷ ps) (with_first b ps)) ≡ 1
    with_no_point true ps e l = cc
    with_no_point false [] e l = refl
    with_no_point false (p ∷ ps) e l = l

    no_point : (t : Bool) → (let r : Option (List ℕ × List ℕ) = cond t (Some ([], s)) None in r ≡ None) → t ≡ false
    no_point true e = cc
    no_point false e = refl

    go : (r : Option (List ℕ × List ℕ)) → cut_last 46 s ≡ r → cut_before 46 b s r ≡ None → (cut_last 46 s ≡ None → length (names_of s) ≡ 1) → length (names_of (b ∷ s)) ≡ 1
    go (Some p) e k rest = cc
    go None e k rest = with_no_point (b == 46) (names_of s) (no_point (b == 46) k) (rest e)

pub no_full_name : (s : List ℕ) → cut_last 46 s ≡ None → 2 ≤ length (names_of s) → ⊥
no_full_name s h l = let e = one_name s h in omega arith
