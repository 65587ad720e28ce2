-- How a listener answers a line, and what it says at the end.
use Rattle.std.specs.Prelude.{◌≡◌, ◌++◌, ◌+◌, ℕ, List, ◌∷◌, Result, Ok, Err, length, ⊤}
use Rattle.line_loop.specs.declared.listener.LineStop.{LineStop}
use Rattle.line_loop.specs.declared.listener.LineStop.TheVariants as stop

-- a text that answers the line stands behind what was gathered
abbrev pub IsHeard : {R : Type 0} → (Result (List ℕ) R → Type 0) → List ℕ → List ℕ → Type 0
IsHeard answers before after = (text : List ℕ) × answers (Ok text) × (after ≡ before ++ text)

-- the line is refused, and nothing is gathered; where memory was wanted, nothing counts any more
abbrev pub IsUnheard : {R : Type 0} → (Result (List ℕ) R → Type 0) → List ℕ → List ℕ → LineStop R
    → Type 0
IsUnheard answers before after (stop.Refused refusal) = answers (Err refusal) × (after ≡ before)
IsUnheard answers before after stop.NoMemory = ⊤

-- a line is answered, or it is not
abbrev pub Hears : {R U : Type 0} → (Result (List ℕ) R → Type 0) → List ℕ → List ℕ
    → Result U (LineStop R) → Type 0
Hears answers before after (Ok heard) = IsHeard answers before after
Hears answers before after (Err stop) = IsUnheard answers before after stop

-- what a listener was at first, what it is, and the lines that it heard in between, newest first
abbrev pub Met : Type 0 → Type 1
Met S = S → S → List (List ℕ) → Type 0

-- a line that is refused isn't heard; where memory was wanted, nothing counts any more
abbrev pub StayHeard : {R : Type 0} → (List (List ℕ) → Type 0) → List (List ℕ) → LineStop R → Type 0
StayHeard heard past (stop.Refused refusal) = heard past
StayHeard heard past stop.NoMemory = ⊤

-- one more line was heard where it was answered
abbrev pub HeardOn : {R U : Type 0} → (List (List ℕ) → Type 0) → List (List ℕ) → List ℕ
    → Result U (LineStop R) → Type 0
HeardOn heard past line (Ok u) = heard (line ∷ past)
HeardOn heard past line (Err stop) = StayHeard heard past stop

-- a listener that heard some lines was given one more, whose number is the next
abbrev pub HasHeard : {S R U : Type 0} → (S → List (List ℕ) → List ℕ → Result (List ℕ) R → Type 0)
    → Met S → S → S → ℕ → List ℕ → List ℕ → List ℕ → Result U (LineStop R) → Type 0
HasHeard {S} answers heard old new number line before after result =
    (first : S) (past : List (List ℕ)) → heard first old past → number ≡ length past + 1
    → HeardOn (heard first new) past line result
    × Hears (answers first past line) before after result

-- its last words stand behind what was gathered
abbrev pub IsEnded : (List ℕ → Type 0) → List ℕ → List ℕ → Type 0
IsEnded last before after = (words : List ℕ) × last words × (after ≡ before ++ words)

-- a listener that heard some lines has said its last words behind them
abbrev pub HasEnded : {S : Type 0} → (S → List (List ℕ) → List ℕ → Type 0) → Met S → S → List ℕ
    → List ℕ → Type 0
HasEnded {S} last heard old before after =
    (first : S) (past : List (List ℕ)) → heard first old past
    → IsEnded (last first past) before after
