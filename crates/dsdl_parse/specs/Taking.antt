-- What taking a word of the line leaves.
use Rattle.std.specs.Prelude.{◌≡◌, true, false, List, [], ◌∷◌, Option, Some, None}
use Rattle.dsdl_parse.specs.declared.words.WordRef.{WordRef}
use Rattle.dsdl_parse.specs.Words.{Word, Signs, is_in, first_in, seen}

-- the next word, where there is one
abbrev pub IsFirst : List Word → Option WordRef → Type 0
IsFirst [] None = Unit {0}
IsFirst [] (Some w) = ⊥
IsFirst (v ∷ ws) None = ⊥
IsFirst (v ∷ ws) (Some w) = v ≡ seen w

-- the next word was taken, or none is left
abbrev pub TakesNext : List Word → Option WordRef → List Word → Type 0
TakesNext old None new = (old ≡ []) × (new ≡ [])
TakesNext old (Some w) new = old ≡ seen w ∷ new

-- the next word is one of these signs and was taken, or it is none of them and stays
abbrev pub Takes : Signs → List Word → Option WordRef → List Word → Type 0
Takes ss old None new = (new ≡ old) × (first_in ss old ≡ false)
Takes ss old (Some w) new = (old ≡ seen w ∷ new) × (is_in ss (seen w) ≡ true)
