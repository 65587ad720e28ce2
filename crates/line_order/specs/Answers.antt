-- What is said to the lines of a log that is brought into order.
use Rattle.std.specs.Prelude.{◌≡◌, ◌+◌, ◌++◌, ◌^◌, ◌∷◌, ℕ, List, Option, Some, None, Result, Ok}
use Rattle.std.specs.Prelude.{Err, if◌then◌else◌, length, nat_lt}
use Rattle.frame_log.specs.declared.error.LogWhy.TheVariants as why
use Rattle.line_loop.specs.Reply.{Voice, voice}
use Rattle.line_loop.specs.declared.bounds.LineBounds.{LineBounds}
use Rattle.line_order.specs.Form.{Said, NoForm, Nothing, Line, said_of}
use Rattle.line_order.specs.Order.{Entry, entries_of, greatest, ordered, due, texts}
use Rattle.line_order.specs.declared.refusal.Refusal.{Refusal}

-- a line with this number has no form
abbrev pub bad_line : ℕ → Refusal
bad_line n = record { line = n; why = why.BadLine }

-- a line with this number comes too late
abbrev pub too_late : ℕ → Refusal
too_late n = record { line = n; why = why.TimeBack }

-- why a line is refused, if it is: its moment and the window together are below the greatest before
abbrev pub refusal_by : ℕ → List Entry → ℕ → Said → Option Refusal
refusal_by window past n NoForm = Some (bad_line n)
refusal_by window past n Nothing = None
refusal_by window past n (Line moment text) =
    if nat_lt (moment + window) (greatest past) then Some (too_late n) else None

-- the same of a line behind others, which stand newest first
abbrev pub refusal_of : ℕ → List (List ℕ) → List ℕ → Option Refusal
refusal_of window past line =
    refusal_by window (entries_of past) (length past + 1) (said_of line)

-- what is written when these lines were heard: the texts of those that are due
abbrev pub written : ℕ → List (List ℕ) → List ℕ
written window past = texts (due window (entries_of past))

-- what is written in all: the texts of all in order
abbrev pub all_written : List (List ℕ) → List ℕ
all_written past = texts (ordered (entries_of past))

-- the answer to a line is what is written then and was not before, or its refusal
abbrev pub Answers : ℕ → List (List ℕ) → List ℕ → Result (List ℕ) Refusal → Type 0
Answers window past line (Ok text) = (refusal_of window past line ≡ None)
    × (written window (line ∷ past) ≡ written window past ++ text)
Answers window past line (Err refusal) = refusal_of window past line ≡ Some refusal

-- the last words are what was not written before
abbrev pub AreLast : ℕ → List (List ℕ) → List ℕ → Type 0
AreLast window past words = all_written past ≡ written window past ++ words

-- the most bytes of a line and of an input
abbrev pub bounds : LineBounds
bounds = record { line = 4096; all = 2 ^ 28 }

-- what is said to the lines of an input
abbrev pub order_voice : ℕ → Voice Refusal
order_voice window = voice (Answers window) (AreLast window) bad_line bounds
