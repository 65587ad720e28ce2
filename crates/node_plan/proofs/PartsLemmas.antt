-- Lemmas on the parts of a text.
use Rattle.std.proofs.Common.{◌≡◌, ◌==◌, Bool, true, false, List, [], ◌∷◌, ◌++◌, ◌∙◌, ℕ, Option, Some, None, refl, sym, ap}
use Rattle.std.specs.Prelude.{codes, if◌then◌else◌}
use Rattle.std.specs.Str.{bytes_eq}
use Rattle.std.proofs.lemmas.Bool.{eqb-true}
use Rattle.dsdl_types.specs.declared.namespace.Namespace.{Namespace}
use Rattle.node_plan.specs.declared.info.VersionWord.TheVariants as word
use Rattle.node_plan.specs.Info.{version_of_parts}
use Rattle.node_plan.specs.Line.{RegisterText, register_in, said_of_many, said_of_words}
use Rattle.node_plan.specs.Words.{joined, parts_of, with_first}

-- bytes in front of the first part
abbrev pub with_front : List ℕ → List (List ℕ) → List (List ℕ)
with_front s [] = s ∷ []
with_front s (p ∷ ps) = (s ++ p) ∷ ps

-- there is a part
pub with_front-none : (b : ℕ) (s : List ℕ) → parts_of b s ≡ with_front [] (parts_of b s)
with_front-none b [] = refl
with_front-none b (x ∷ s) = of_test (x == b) (parts_of b s)
  where
    of_test : (t : Bool) (ps : List (List ℕ)) → (if t then [] ∷ ps else with_first x ps) ≡ with_front [] (if t then [] ∷ ps else with_first x ps)
    of_test true ps = refl
    of_test false [] = refl
    of_test false (p ∷ ps) = refl

-- a byte in front of the first part stands in front of the whole
joined-first : (c b : ℕ) (parts : List (List ℕ)) → joined c (with_first b parts) ≡ b ∷ joined c parts
joined-first c b [] = refl
joined-first c b (p ∷ []) = refl
joined-first c b (p ∷ q ∷ ps) = refl

-- the parts of a text with the byte between them are the text
pub joined-parts : (c : ℕ) (s : List ℕ) → joined c (parts_of c s) ≡ s
joined-parts c [] = refl
joined-parts c (b ∷ s) = of_test (b == c) (eqb-true b c) (parts_of c s) (with_front-none c s) (joined-parts c s)
  where
    of_parts : (ps : List (List ℕ)) → ps ≡ with_front [] ps → joined c ps ≡ s → joined c ([] ∷ ps) ≡ c ∷ s
    of_parts [] h e = absurd cc
    of_parts (p ∷ ps) h e = ap (λ t. c ∷ t) e

    of_test : (t : Bool) → (t ≡ true → b ≡ c) → (ps : List (List ℕ)) → ps ≡ with_front [] ps → joined c ps ≡ s → joined c (if t then [] ∷ ps else with_first b ps) ≡ b ∷ s
    of_test true same ps h e = of_parts ps h e ∙ ap (λ x. x ∷ s) (sym (same refl))
    of_test false same ps h e = joined-first c b ps ∙ ap (λ t. b ∷ t) e

-- six words or more say what a node is, or nothing
pub said_of_words-many : (names : Namespace) (two : Bool) (a b c d e s : List ℕ) → said_of_words names two (a ∷ b ∷ c ∷ d ∷ e ∷ parts_of 32 s) ≡ said_of_many a b c d e s
said_of_words-many names two a b c d e s = of_parts (parts_of 32 s) (with_front-none 32 s) ∙ ap (said_of_many a b c d e) (joined-parts 32 s)
  where
    of_parts : (ps : List (List ℕ)) → ps ≡ with_front [] ps → said_of_words names two (a ∷ b ∷ c ∷ d ∷ e ∷ ps) ≡ said_of_many a b c d e (joined 32 ps)
    of_parts [] h = absurd cc
    of_parts (p ∷ ps) h = refl

-- three numbers or more are no version
pub version_of_parts-many : (a b s : List ℕ) → version_of_parts (a ∷ b ∷ parts_of 46 s) ≡ word.NoVersion
version_of_parts-many a b s = of_parts (parts_of 46 s) (with_front-none 46 s)
  where
    of_parts : (ps : List (List ℕ)) → ps ≡ with_front [] ps → version_of_parts (a ∷ b ∷ ps) ≡ word.NoVersion
    of_parts [] h = absurd cc
    of_parts (p ∷ ps) h = refl

-- the words of a register's line, where they begin with this one
abbrev pub register_by : Bool → RegisterText → Option RegisterText
register_by true words = Some words
register_by false words = None

-- four words or more are those of a register, or not
pub register_in-more : (a b c s : List ℕ) → register_in (a ∷ b ∷ c ∷ parts_of 32 s) ≡ register_by (bytes_eq a (codes "register")) (record { name = b; access = c; text = s })
register_in-more a b c s = of_parts (parts_of 32 s) (with_front-none 32 s) ∙ of_test (bytes_eq a (codes "register")) (joined 32 (parts_of 32 s)) (joined-parts 32 s)
  where
    of_parts : (ps : List (List ℕ)) → ps ≡ with_front [] ps → register_in (a ∷ b ∷ c ∷ ps) ≡ (if bytes_eq a (codes "register") then Some (record { name = b; access = c; text = joined 32 ps }) else None)
    of_parts [] h = absurd cc
    of_parts (p ∷ ps) h = refl

    of_test : (is : Bool) (t : List ℕ) → t ≡ s → (if is then Some (record { name = b; access = c; text = t }) else None) ≡ register_by is (record { name = b; access = c; text = s })
    of_test true t e = ap (λ u. Some (record { name = b; access = c; text = u })) e
    of_test false t e = refl
