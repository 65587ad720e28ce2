-- The text of the path to a part of a value: names with a point between, and the places of items in
-- brackets.
use Rattle.std.specs.Prelude.{ℕ, List, [], ◌∷◌, ◌++◌, codes, decimal}
use Rattle.dsdl_types.specs.Reading.{Step, Name, Index}
use Rattle.dsdl_types.specs.declared.path.Step.{Step as PathStep}
use Rattle.dsdl_types.specs.declared.path.Step.TheVariants as S

-- a step of the code as one of the definitions
abbrev pub step_of : PathStep → Step
step_of (S.Name name) = Name name
step_of (S.Index place) = Index place

-- a step at the top
abbrev pub step_text : Step → List ℕ
step_text (Name name) = name
step_text (Index place) = codes "[" ++ decimal place ++ codes "]"

-- a step behind others
abbrev pub further_text : Step → List ℕ
further_text (Name name) = codes "." ++ name
further_text (Index place) = step_text (Index place)

-- steps behind others
abbrev pub further_texts : List Step → List ℕ
further_texts [] = []
further_texts (s ∷ steps) = further_text s ++ further_texts steps

-- the path to a part, from the whole on; a point alone is the whole
abbrev pub path_text : List Step → List ℕ
path_text [] = codes "."
path_text (s ∷ steps) = step_text s ++ further_texts steps
