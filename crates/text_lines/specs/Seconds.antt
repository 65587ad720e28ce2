-- The text of a second.
use Rattle.std.specs.Prelude.{ℕ, ◌/◌, List, ◌∷◌, ◌++◌, [], codes, decimal}

-- the front of an `rx` line in the second that begins at this moment
abbrev pub second_text : ℕ → List ℕ
second_text start = codes "rx " ++ (decimal (start / 1000000) ++ 46 ∷ [])
