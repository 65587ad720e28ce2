-- Words that lines have in common.
use Rattle.std.specs.Prelude.{ℕ, zero, suc, ◌/◌, nat_lt, if◌then◌else◌, List, ◌∷◌, ◌++◌, [], codes}
use Rattle.std.specs.Prelude.{decimal}

-- the front of a moment in the second that begins at this one
abbrev pub second_text : ℕ → List ℕ
second_text start = decimal (start / 1000000) ++ 46 ∷ []

-- the name of a bus with a space on each side
abbrev pub bus_word : List ℕ → List ℕ
bus_word name = 32 ∷ (name ++ 32 ∷ [])

-- what stands before the last digit of the number of one of ten lines, of which this is the first
abbrev pub tens : ℕ → List ℕ
tens start = if nat_lt start 10 then [] else decimal (start / 10)

abbrev pub tens_text : ℕ → List ℕ
tens_text start = codes "frame " ++ tens start

-- so many numbers in a row, each with a space behind
abbrev pub numbers : ℕ → ℕ → List (List ℕ)
numbers n zero = []
numbers n (suc count) = (decimal n ++ 32 ∷ []) ∷ numbers (suc n) count
