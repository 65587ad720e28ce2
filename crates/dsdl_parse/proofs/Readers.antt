-- When a reader takes exactly the texts of a rule.
use Rattle.std.proofs.Common.{◌≡◌, false, not, List, [], ◌∷◌, ◌++◌, Some}
use Rattle.dsdl_parse.specs.declared.expr.Expr.{Expr}
use Rattle.dsdl_parse.specs.Words.{Word, Signs, is_in}
use Rattle.dsdl_parse.specs.Grammar.{Rule}
use Rattle.dsdl_parse.specs.Reading.{Reader}
use Rattle.dsdl_parse.proofs.Basics.{out_of_both}

-- what follows does not go on with one of these signs
abbrev pub Stops : Signs → List Word → Type 0
Stops goes [] = Unit {0}
Stops goes (w ∷ ws) = is_in goes w ≡ false

pub stops_parts : (ss ts : Signs) (ws : List Word) → Stops (ss ++ ts) ws → Stops ss ws × Stops ts ws
stops_parts ss ts [] s = (tt, tt)
stops_parts ss ts (w ∷ ws) s = out_of_both ss ts w s

-- it begins with a word that is none of these signs
abbrev pub Begins : Signs → List Word → Type 0
Begins not [] = ⊥
Begins not (w ∷ ws) = is_in not w ≡ false

pub begins_more : (not : Signs) (front back : List Word) → Begins not front → Begins not (front ++ back)
begins_more not [] back b = absurd b
begins_more not (w ∷ ws) back b = b

-- the reader takes exactly the texts of the rule, where none of these signs follows
pub record Reads (p : Reader Expr) (R : Rule) (goes : Signs) : Type 0 where
  pub sound : (ws rest : List Word) (x : Expr) → p ws ≡ Some (x, rest) → (front : List Word) × (ws ≡ front ++ rest) × R front x
  pub complete : (front rest : List Word) (x : Expr) → R front x → Stops goes rest → p (front ++ rest) ≡ Some (x, rest)
