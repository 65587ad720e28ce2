-- The parts of a text, and a text from its parts.
use Rattle.std.specs.Prelude.{ℕ, List, [], ◌∷◌, ◌++◌, ◌==◌, Option, Some, None, if◌then◌else◌}

-- a byte in front of the first part
abbrev pub with_first : ℕ → List (List ℕ) → List (List ℕ)
with_first b [] = (b ∷ []) ∷ []
with_first b (p ∷ ps) = (b ∷ p) ∷ ps

-- the parts of a text before, between and behind its bytes c
abbrev pub parts_of : ℕ → List ℕ → List (List ℕ)
parts_of c [] = [] ∷ []
parts_of c (b ∷ s) = if b == c then [] ∷ parts_of c s else with_first b (parts_of c s)

-- names with a point between each two
abbrev pub dotted : List (List ℕ) → List ℕ
dotted [] = []
dotted (name ∷ []) = name
dotted (name ∷ next ∷ names) = name ++ 46 ∷ dotted (next ∷ names)

-- a point in place of a byte c
abbrev pub point_for : ℕ → ℕ → ℕ
point_for c b = if b == c then 46 else b

-- the names of a dotted text
abbrev pub names_of : List ℕ → List (List ℕ)
names_of text = parts_of 46 text

-- a byte c in front of a text is its last one where the text has none
abbrev pub cut_before : ℕ → ℕ → List ℕ → Option (List ℕ × List ℕ) → Option (List ℕ × List ℕ)
cut_before c b s (Some p) = Some (b ∷ p.0, p.1)
cut_before c b s None = if b == c then Some ([], s) else None

-- what stands before and behind the last byte c of a text
abbrev pub cut_last : ℕ → List ℕ → Option (List ℕ × List ℕ)
cut_last c [] = None
cut_last c (b ∷ s) = cut_before c b s (cut_last c s)
