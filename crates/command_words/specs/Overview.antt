-- The lines of the overview, and how large a text is.
use Rattle.std.specs.Prelude.{◌≡◌, ℕ, ◌+◌, ◌-◌, ◌==◌, nat_le, Bool, ◌&&◌, List, [], ◌∷◌, ◌++◌}
use Rattle.std.specs.Prelude.{length, replicate, if◌then◌else◌}
use Rattle.std.specs.Str.{bytes_eq}
use Rattle.command_words.specs.Table.{Row, call_of}

-- a text with spaces behind it, up to a column
abbrev pub padded : ℕ → List ℕ → List ℕ
padded column text = text ++ replicate (column - length text) 32

-- a command's line: a heading, if there is one, its word with its arguments, and what it does
abbrev pub line_of : List ℕ → Row → List ℕ
line_of heading row =
    padded 8 heading ++ (padded 24 (call_of row) ++ (row.summary.now ++ 10 ∷ []))

-- the lines of rows, the first behind one of this group: the heading of a group stands in front of
-- its first line alone
abbrev pub lines_behind : List ℕ → List Row → List ℕ
lines_behind group [] = []
lines_behind group (row ∷ rest) =
    line_of (if bytes_eq row.group.now group then [] else row.group.now) row
    ++ lines_behind row.group.now rest

abbrev pub overview_lines : List Row → List ℕ
overview_lines rows = lines_behind [] rows

-- a text has these lines in a row
abbrev pub HasLines : List ℕ → List ℕ → Type 0
HasLines lines text = (head : List ℕ) × (foot : List ℕ) × (text ≡ head ++ (lines ++ foot))

-- the column behind a byte, and how many lines end with it
abbrev pub column_behind : ℕ → ℕ → ℕ
column_behind column x = if x == 10 then 0 else column + 1

abbrev pub ended_by : ℕ → ℕ
ended_by x = if x == 10 then 1 else 0

-- whether a text has at most so many lines, each of at most 80 columns, where it begins in this
-- column and behind so many lines
abbrev pub fits_from : ℕ → ℕ → ℕ → List ℕ → Bool
fits_from most column above [] = nat_le above most
fits_from most column above (x ∷ xs) =
    nat_le (column_behind column x) 80
    && fits_from most (column_behind column x) (above + ended_by x) xs

abbrev pub fits_screen : ℕ → List ℕ → Bool
fits_screen most text = fits_from most 0 0 text
