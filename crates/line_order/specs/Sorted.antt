-- The one list of some entries that is sorted and stable.
use Rattle.std.specs.Prelude.{◌≡◌, ◌<◌, ◌≤◌, ◌⊎◌, ◌+◌, ℕ, List, Option, [], ◌∷◌, ◌++◌, None, ⊤}
use mathlib.Core.List.{reverse_aux}
use Rattle.cy_outside.specs.Written.{behind}
use Rattle.line_loop.specs.Input.{IsTaken}
use Rattle.line_loop.specs.Reply.{heard_lines, newest_first}
use Rattle.line_order.specs.Answers.{bounds, refusal_of}
use Rattle.line_order.specs.Form.{Line, said_of}
use Rattle.line_order.specs.Order.{Entry, entries_of, greatest, texts}

-- one entry stands before another: by the moments, and where these are equal by the numbers
abbrev pub IsBefore : Entry → Entry → Type 0
IsBefore a b = (a.moment < b.moment) ⊎ ((a.moment ≡ b.moment) × (a.number < b.number))

-- an entry stands before each of these
abbrev pub IsBeforeAll : Entry → List Entry → Type 0
IsBeforeAll a [] = ⊤
IsBeforeAll a (e ∷ es) = IsBefore a e × IsBeforeAll a es

-- each entry stands before those behind it; so none stands twice
abbrev pub Ascends : List Entry → Type 0
Ascends [] = ⊤
Ascends (e ∷ es) = IsBeforeAll e es × Ascends es

-- an entry is one of these
abbrev pub IsIn : Entry → List Entry → Type 0
IsIn a [] = ⊥
IsIn a (e ∷ es) = (a ≡ e) ⊎ IsIn a es

-- a list has exactly these entries, each once, sorted by moment and stable
pub record IsOrderOf (es list : List Entry) : Type 0 where
  pub ascends : Ascends list
  pub each : (e : Entry) → IsIn e es → IsIn e list
  pub only : (e : Entry) → IsIn e list → IsIn e es

-- the entries of an input, newest first
abbrev pub entries_in : List ℕ → List Entry
entries_in bytes = entries_of (newest_first (heard_lines bounds bytes))

-- a text has the lines of an input in the order of their moments
pub record IsOrdered (bytes text : List ℕ) : Type 0 where
  pub list : List Entry
  pub order : IsOrderOf (entries_in bytes) list
  pub texts : text ≡ texts list

-- entries that stand newest first are in order: no moment is below one before it
abbrev pub AreInOrder : List Entry → Type 0
AreInOrder [] = ⊤
AreInOrder (e ∷ es) = (greatest es ≤ e.moment) × AreInOrder es

-- entries that stand newest first in the order of the input
abbrev pub oldest_first : List Entry → List Entry
oldest_first es = reverse_aux es []

-- a line behind others, which stand newest first, is later than a window allows
abbrev pub IsLate : ℕ → List (List ℕ) → List ℕ → Type 0
IsLate window past line = (moment : ℕ) × (text : List ℕ) × (said_of line ≡ Line moment text)
    × (moment + window < greatest (entries_of past))

-- none of these lines is refused behind those before it
abbrev pub AreTimely : ℕ → List (List ℕ) → Type 0
AreTimely window lines = (before behind : List (List ℕ)) (line : List ℕ)
    → lines ≡ before ++ (line ∷ behind) → refusal_of window (newest_first before) line ≡ None

-- all of an input was taken, and its lines were written in the order of their moments
pub record HasSorted (left new before after : Option (List ℕ)) : Type 0 where
  pub bytes : List ℕ
  pub told : IsTaken left new bytes []
  pub text : List ℕ
  pub sorted : IsOrdered bytes text
  pub written : after ≡ behind before text
