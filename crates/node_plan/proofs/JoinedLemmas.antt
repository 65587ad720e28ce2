-- Lemmas on parts that are joined.
use Rattle.std.proofs.Common.{◌≡◌, ◌∙◌, ◌==◌, Bool, true, false, List, [], ◌∷◌, ◌++◌, ℕ, refl, ap}
use Rattle.std.specs.Prelude.{if◌then◌else◌}
use Rattle.std.proofs.lemmas.Bool.{eq-eqb}
use Rattle.node_plan.specs.Words.{joined, parts_of, with_first}
use Rattle.node_plan.proofs.PartsLemmas.{with_front, with_front-none}

-- no byte is c
abbrev pub Free : ℕ → List ℕ → Type 0
Free c [] = Unit {0}
Free c (b ∷ s) = ((b == c) ≡ false) × Free c s

abbrev pub AllFree : ℕ → List (List ℕ) → Type 0
AllFree c [] = Unit {0}
AllFree c (part ∷ parts) = Free c part × AllFree c parts

pub free-append : (c : ℕ) (s t : List ℕ) → Free c s → Free c t → Free c (s ++ t)
free-append c [] t h k = k
free-append c (b ∷ s) t h k = (h.0, free-append c s t h.1 k)

-- two texts with a byte c between them
pub parts-append : (c : ℕ) (s t : List ℕ) → parts_of c (s ++ c ∷ t) ≡ parts_of c s ++ parts_of c t
parts-append c [] t = ap (λ test. if test then [] ∷ parts_of c t else with_first c (parts_of c t)) (eq-eqb c c refl)
parts-append c (b ∷ s) t = of_test (b == c) (parts_of c s) (with_front-none c s) (parts-append c s t)
  where
    of_parts : (ps : List (List ℕ)) → ps ≡ with_front [] ps → with_first b (ps ++ parts_of c t) ≡ with_first b ps ++ parts_of c t
    of_parts [] h = absurd cc
    of_parts (p ∷ ps) h = refl

    of_test : (test : Bool) (ps : List (List ℕ)) → ps ≡ with_front [] ps → parts_of c (s ++ c ∷ t) ≡ ps ++ parts_of c t
        → (if test then [] ∷ parts_of c (s ++ c ∷ t) else with_first b (parts_of c (s ++ c ∷ t))) ≡ (if test then [] ∷ ps else with_first b ps) ++ parts_of c t
    of_test true ps h e = ap (λ qs. [] ∷ qs) e
    of_test false ps h e = ap (with_first b) e ∙ of_parts ps h

-- a text without c is its one part
pub parts-free : (c : ℕ) (s : List ℕ) → Free c s → parts_of c s ≡ s ∷ []
parts-free c [] h = refl
parts-free c (b ∷ s) h =
    ap (λ test. if test then [] ∷ parts_of c s else with_first b (parts_of c s)) h.0 ∙ ap (with_first b) (parts-free c s h.1)

-- no part has a c
pub parts_are_free : (c : ℕ) (s : List ℕ) → AllFree c (parts_of c s)
parts_are_free c [] = (tt, tt)
parts_are_free c (b ∷ s) = of_test (b == c) refl (parts_of c s) (parts_are_free c s)
  where
    of_test : (test : Bool) → (b == c) ≡ test → (ps : List (List ℕ)) → AllFree c ps → AllFree c (if test then [] ∷ ps else with_first b ps)
    of_test true e ps h = (tt, h)
    of_test false e [] h = ((e, tt), tt)
    of_test false e (p ∷ ps) h = ((e, h.0), h.1)

-- parts without c are those of what they are joined to
pub parts-joined : (c : ℕ) (part : List ℕ) (parts : List (List ℕ)) → AllFree c (part ∷ parts) → parts_of c (joined c (part ∷ parts)) ≡ part ∷ parts
parts-joined c part [] h = parts-free c part h.0
parts-joined c part (next ∷ parts) h =
    parts-append c part (joined c (next ∷ parts))
    ∙ ap (λ ps. ps ++ parts_of c (joined c (next ∷ parts))) (parts-free c part h.0)
    ∙ ap (λ ps. part ∷ ps) (parts-joined c next parts h.1)
