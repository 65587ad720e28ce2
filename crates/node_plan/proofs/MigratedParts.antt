-- The migrated text, a line at a time.
use Rattle.std.proofs.Common.{◌≡◌, ◌∙◌, List, [], ◌∷◌, ◌++◌, ℕ, refl, sym, ap, append_assoc}
use Rattle.std.specs.Prelude.{map}
use Rattle.node_plan.specs.Migrate.{migrated_line, migrated_text, migrated_words}
use Rattle.node_plan.specs.Words.{joined, parts_of}
use Rattle.node_plan.proofs.PartsLemmas.{with_front, with_front-none}

-- a line of three words or more stays
pub migrated_words-many : (numbers line a b s : List ℕ) → migrated_words numbers line (a ∷ b ∷ parts_of 32 s) ≡ line
migrated_words-many numbers line a b s = of_parts (parts_of 32 s) (with_front-none 32 s)
  where
    of_parts : (ps : List (List ℕ)) → ps ≡ with_front [] ps → migrated_words numbers line (a ∷ b ∷ ps) ≡ line
    of_parts [] h = absurd cc
    of_parts (p ∷ ps) h = refl

-- a line and then others
migrated_text-line : (numbers line s : List ℕ) → joined 10 (map (migrated_line numbers) (line ∷ parts_of 10 s)) ≡ migrated_line numbers line ++ 10 ∷ migrated_text numbers s
migrated_text-line numbers line s = of_parts (parts_of 10 s) (with_front-none 10 s)
  where
    of_parts : (ps : List (List ℕ)) → ps ≡ with_front [] ps
        → joined 10 (map (migrated_line numbers) (line ∷ ps)) ≡ migrated_line numbers line ++ 10 ∷ joined 10 (map (migrated_line numbers) ps)
    of_parts [] h = absurd cc
    of_parts (p ∷ ps) h = refl

-- what was made, and then a line and a newline
pub migrated_text-next : (numbers text made behind line s new next : List ℕ) → migrated_text numbers text ≡ made ++ migrated_text numbers behind → parts_of 10 behind ≡ line ∷ parts_of 10 s
    → new ≡ made ++ migrated_line numbers line → next ≡ new ++ 10 ∷ [] → migrated_text numbers text ≡ next ++ migrated_text numbers s
migrated_text-next numbers text made behind line s new next h parts e f =
    h ∙ ap (λ t. made ++ t) (ap (λ ps. joined 10 (map (migrated_line numbers) ps)) parts ∙ migrated_text-line numbers line s)
    ∙ sym (ap (λ t. t ++ migrated_text numbers s) (f ∙ ap (λ t. t ++ 10 ∷ []) e)
    ∙ append_assoc (made ++ migrated_line numbers line) (10 ∷ []) (migrated_text numbers s)
    ∙ append_assoc made (migrated_line numbers line) (10 ∷ migrated_text numbers s))
