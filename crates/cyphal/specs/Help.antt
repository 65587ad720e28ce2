-- What the program answers of itself and its commands.
use Rattle.std.specs.Prelude.{◌≡◌, ◌⊎◌, ℕ, Bool, ◌||◌, List, [], ◌∷◌, codes, Option, Some, None}
use Rattle.std.specs.Prelude.{if◌then◌else◌}
use Rattle.std.specs.Str.{bytes_eq}
use Rattle.cy_outside.specs.Outside.{Rose}
use Rattle.cy_outside.specs.Written.{behind, Begins}
use Rattle.command_words.specs.Table.{help_of}
use Rattle.command_words.specs.declared.overview_text.TheConstants.{OVERVIEW}
use Rattle.cyphal.specs.declared.help.TheConstants.{VERSION}

-- a word asks for help
abbrev pub asks_help : List ℕ → Bool
asks_help word = bytes_eq word (codes "--help") || bytes_eq word (codes "-h")

-- the answer to a word that is the only one
abbrev pub answer_of : List ℕ → Option (List ℕ)
answer_of word =
    if asks_help word then Some OVERVIEW.now
    else (if bytes_eq word (codes "--version") then Some VERSION.now else None)

-- what the program itself answers: the overview to `--help` alone, the version to `--version`
-- alone, and the help of a command to its word and `--help`
abbrev pub own_answer : List (List ℕ) → Option (List ℕ)
own_answer [] = None
own_answer (word ∷ []) = answer_of word
own_answer (word ∷ asked ∷ []) = if asks_help asked then help_of word else None
own_answer (word ∷ asked ∷ more ∷ rest) = None

-- the program ended with this number, and all of an answer was written, or a beginning where a
-- write failed
abbrev pub HasAnswered : List ℕ → ℕ → Option (List ℕ) → Option (List ℕ) → Type 0
HasAnswered text code before after =
    ((code ≡ 0) × (after ≡ behind before text)) ⊎ ((code ≡ 9) × Begins text before after)

-- it takes nothing of the input, and ends with a write fault only where a write failed, and with no
-- fault only where none did
pub record HasOwnCause {L : Type 0} (code : ℕ) (input input_new : L) (faults faults_new : ℕ)
    : Type 0 where
  pub untaken : input_new ≡ input
  pub fault : code ≡ 9 → Rose faults faults_new
  pub kept : code ≡ 0 → faults_new ≡ faults
