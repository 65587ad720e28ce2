-- What a listener says to an input, line by line, and how it ends where nothing fails.
use Rattle.std.specs.Prelude.{◌≡◌, ◌++◌, ◌+◌, ℕ, List, [], ◌∷◌, Result, Ok, Err, MatchBool}
use Rattle.std.specs.Prelude.{if◌then◌else◌, length, nat_lt, take}
use mathlib.Core.List.{reverse_aux}
use Rattle.line_loop.specs.Lines.{lines_of, with_last}
use Rattle.line_loop.specs.declared.bounds.LineBounds.{LineBounds}
use Rattle.line_loop.specs.declared.ended.LinesEnded.{LinesEnded}
use Rattle.line_loop.specs.declared.ended.LinesEnded.TheVariants as end

-- What answers a line behind the lines before it, the last words behind all lines that are
-- answered, the refusal of a line that is too long, by its number, and the bounds. The lines before
-- stand newest first.
pub record Voice (R : Type 0) : Type 1 where
  pub answers : List (List ℕ) → List ℕ → Result (List ℕ) R → Type 0
  pub last : List (List ℕ) → List ℕ → Type 0
  pub long : ℕ → R
  pub bounds : LineBounds

abbrev pub voice : {R : Type 0} → (List (List ℕ) → List ℕ → Result (List ℕ) R → Type 0)
    → (List (List ℕ) → List ℕ → Type 0) → (ℕ → R) → LineBounds → Voice R
voice answers last long bounds =
    record { answers = answers; last = last; long = long; bounds = bounds }

-- the voice of a listener, by what it was at first
abbrev pub voices : {S R : Type 0} → (S → List (List ℕ) → List ℕ → Result (List ℕ) R → Type 0)
    → (S → List (List ℕ) → List ℕ → Type 0) → (ℕ → R) → LineBounds → S → Voice R
voices answers last long bounds first = voice (answers first) (last first) long bounds

-- a line is answered by its number and its bytes alone
abbrev pub by_number : {R : Type 0} → (ℕ → List ℕ → Result (List ℕ) R → Type 0) → List (List ℕ)
    → List ℕ → Result (List ℕ) R → Type 0
by_number answers past line answer = answers (length past + 1) line answer

-- there are no last words
abbrev pub no_words : List (List ℕ) → List ℕ → Type 0
no_words past words = words ≡ []

-- one who answers each line by its number and its bytes alone, and has no last words
abbrev pub line_voice : {R : Type 0} → (ℕ → List ℕ → Result (List ℕ) R → Type 0) → (ℕ → R)
    → LineBounds → Voice R
line_voice answers long bounds = voice (by_number answers) no_words long bounds

-- this answers the line behind those before it: one of more bytes than the bound is refused
abbrev pub Answers : {R : Type 0} → Voice R → List (List ℕ) → List ℕ → Result (List ℕ) R → Type 0
Answers v past line answer = MatchBool (nat_lt v.bounds.line (length line))
    (answer ≡ Err (v.long (length past + 1))) (v.answers past line answer)

-- each of these lines, which stand behind some, is answered by a text; these are the texts in a row
abbrev pub AreAnswered : {R : Type 0} → Voice R → List (List ℕ) → List (List ℕ) → List ℕ → Type 0
AreAnswered v past [] text = text ≡ []
AreAnswered v past (line ∷ lines) text = (first others : List ℕ) × Answers v past line (Ok first)
    × AreAnswered v (line ∷ past) lines others × (text ≡ first ++ others)

-- some lines with the newest first
abbrev pub newest_first : List (List ℕ) → List (List ℕ)
newest_first lines = reverse_aux lines []

-- the answers to these lines, with the last words behind them
pub record AreEnded {R : Type 0} (v : Voice R) (lines : List (List ℕ))
    (text : List ℕ) : Type 0 where
  pub answers : List ℕ
  pub words : List ℕ
  pub answered : AreAnswered v [] lines answers
  pub last : v.last (newest_first lines) words
  pub parts : text ≡ answers ++ words

-- one of these lines is refused, and this is said to those before it
pub record IsRefusedIn {R : Type 0} (v : Voice R) (lines : List (List ℕ)) (text : List ℕ)
    (refusal : R) : Type 0 where
  pub before : List (List ℕ)
  pub line : List ℕ
  pub behind : List (List ℕ)
  pub parts : lines ≡ before ++ (line ∷ behind)
  pub said : AreEnded v before text
  pub refused : Answers v (newest_first before) line (Err refusal)

-- The lines of an input. Of more than `all` bytes, those whose newline is among the first `all`,
-- and what stands behind them where it is too long for a line.
abbrev pub heard_lines : LineBounds → List ℕ → List (List ℕ)
heard_lines bounds bytes = if nat_lt bounds.all (length bytes)
    then with_last bounds.line (lines_of (take bounds.all bytes)) else with_last 0 (lines_of bytes)

-- how it ends where no line is refused
abbrev pub end_of : {R : Type 0} → LineBounds → List ℕ → LinesEnded R
end_of bounds bytes = if nat_lt bounds.all (length bytes) then end.TooLong else end.Ok

-- this is said to an input, and so it ends
abbrev pub IsReply : {R : Type 0} → Voice R → List ℕ → List ℕ → LinesEnded R → Type 0
IsReply v bytes text (end.Refused refusal) = IsRefusedIn v (heard_lines v.bounds bytes) text refusal
IsReply v bytes text ended =
    (ended ≡ end_of v.bounds bytes) × AreEnded v (heard_lines v.bounds bytes) text

-- there is one answer to each line, and there are no two last words
pub record HasOneAnswer {R : Type 0} (v : Voice R) : Type 0 where
  pub answer : (past : List (List ℕ)) (line : List ℕ) (a b : Result (List ℕ) R)
      → v.answers past line a → v.answers past line b → a ≡ b
  pub last : (past : List (List ℕ)) (a b : List ℕ) → v.last past a → v.last past b → a ≡ b
