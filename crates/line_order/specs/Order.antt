-- Lines of a log in the order of their moments.
use Rattle.std.specs.Prelude.{◌+◌, ℕ, Bool, List, [], ◌∷◌, ◌++◌, if◌then◌else◌, length, max, nat_le}
use Rattle.std.specs.Prelude.{nat_lt}
use Rattle.std.specs.List.{filter}
use Rattle.line_order.specs.Form.{Said, NoForm, Nothing, Line, said_of}

-- a line of a log: its moment in microseconds, its number in the input, and its text
pub record Entry : Type 0 where
  pub moment : ℕ
  pub number : ℕ
  pub text : List ℕ

abbrev pub entry : ℕ → ℕ → List ℕ → Entry
entry moment number text = record { moment = moment; number = number; text = text }

-- what a line with this number says, in front of other entries
abbrev pub with_said : ℕ → Said → List Entry → List Entry
with_said n NoForm es = es
with_said n Nothing es = es
with_said n (Line moment text) es = entry moment n text ∷ es

-- the entries of lines; both stand newest first
abbrev pub entries_of : List (List ℕ) → List Entry
entries_of [] = []
entries_of (line ∷ past) = with_said (length past + 1) (said_of line) (entries_of past)

-- the greatest moment of entries, 0 of none
abbrev pub greatest : List Entry → ℕ
greatest [] = 0
greatest (e ∷ es) = max (greatest es) e.moment

-- an entry at its place among others in order: behind those whose moment isn't above its own
abbrev pub put : Entry → List Entry → List Entry
put e [] = e ∷ []
put e (x ∷ xs) = if nat_lt e.moment x.moment then e ∷ x ∷ xs else x ∷ put e xs

-- entries, which stand newest first, in the order of their moments, equal ones in that of the input
abbrev pub ordered : List Entry → List Entry
ordered [] = []
ordered (e ∷ es) = put e (ordered es)

-- the greatest moment is at least the entry's and the window together
abbrev pub is_due : ℕ → ℕ → Entry → Bool
is_due window latest e = nat_le (e.moment + window) latest

-- those of some entries, in order, that are due
abbrev pub due : ℕ → List Entry → List Entry
due window es = filter (is_due window (greatest es)) (ordered es)

-- the texts of entries in a row
abbrev pub texts : List Entry → List ℕ
texts [] = []
texts (e ∷ es) = e.text ++ texts es
