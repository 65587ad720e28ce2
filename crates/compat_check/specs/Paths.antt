-- The text of the way to a part: names with a point between, and brackets for the items of an
-- array.
use Rattle.std.specs.Prelude.{ℕ, List, [], ◌∷◌, ◌++◌, codes}
use Rattle.dsdl_types.specs.Difference.{Turn, Named, Item}

-- a turn by itself
abbrev pub turn_text : Turn → List ℕ
turn_text (Named name) = name
turn_text Item = codes "[]"

-- a turn behind others
abbrev pub further_text : Turn → List ℕ
further_text (Named name) = codes "." ++ name
further_text Item = codes "[]"

-- turns behind others
abbrev pub further_texts : List Turn → List ℕ
further_texts [] = []
further_texts (t ∷ ts) = further_text t ++ further_texts ts

-- the way to a part; a point alone is the whole
abbrev pub path_text : List Turn → List ℕ
path_text [] = codes "."
path_text (t ∷ ts) = turn_text t ++ further_texts ts
