-- The lines that `explain` writes on an input. Records are a list with the newest first.
use Rattle.std.specs.Prelude.{◌≡◌, ℕ, List, [], ◌∷◌, ◌++◌, length, map, Option, Some, None}
use Rattle.tail_frame.specs.declared.logged.Record.{Record}
use Rattle.frame_log.specs.Log.{log_of}
use Rattle.frame_log.specs.declared.error.LogError.{LogError}
use Rattle.node_plan.specs.IsPlan.{IsPlan}
use Rattle.node_plan.specs.declared.plan.Plan.{Plan}
use Rattle.log_loop.specs.Voice.{newest_first, whole_text}
use Rattle.log_explain.specs.Explained.{explain_voice, listens_by, names_of}
use Rattle.log_explain.specs.Lines.{lines, sessions}
use Rattle.log_explain.specs.declared.line.FrameLine.{FrameLine}
use Rattle.explain_laws.specs.Text.{AreLines, AreNames, AtEnd, Line, OnRecord, OnSession, text}

-- those on records, whose lines have the newest first
abbrev pub on_records : List FrameLine → List Line
on_records [] = []
on_records (line ∷ past) = on_records past ++ OnRecord line ∷ []

-- what is written on these records
abbrev pub record_lines : Plan → List Record → List Line
record_lines plan past = on_records (lines (listens_by plan) past)

-- what comes behind them, where the log was read to its end
abbrev pub last_lines : Plan → List Record → List Line
last_lines plan past =
    let all = sessions (listens_by plan) past in
    map OnSession all ++ AtEnd (length past) (length all) ∷ []

abbrev pub end_lines : Plan → List Record → Option LogError → List Line
end_lines plan past None = last_lines plan past
end_lines plan past (Some refusal) = []

-- the records of an input, the newest first, and the refusal that ends it, if one does
abbrev pub logged : Plan → List ℕ → List Record
logged plan bytes = newest_first (log_of (names_of plan) bytes)

abbrev pub refusal_in : Plan → List ℕ → Option LogError
refusal_in plan bytes = (log_of (names_of plan) bytes).refusal

-- the lines that are written on an input
abbrev pub written : Plan → List ℕ → List Line
written plan bytes =
    record_lines plan (logged plan bytes)
    ++ end_lines plan (logged plan bytes) (refusal_in plan bytes)

-- all that `explain` says over it
abbrev pub explained : Plan → List ℕ → List ℕ
explained plan bytes = whole_text (explain_voice plan) (logged plan bytes) (refusal_in plan bytes)

-- that is the text of these lines
abbrev pub ExplainedIsText : Type 0
ExplainedIsText =
    (plan : Plan) (bytes : List ℕ)
    → explained plan bytes ≡ text (names_of plan) (written plan bytes)

-- and no other list of lines has this text
pub record HaveOwnText (names : List (List ℕ)) (lines : List Line) : Type 0 where
  pub named : AreNames names
  pub are : AreLines names lines

abbrev pub WrittenHaveOwnText : Type 0
WrittenHaveOwnText =
    (plan : Plan) (bytes : List ℕ) → IsPlan plan → HaveOwnText (names_of plan) (written plan bytes)

-- so of two inputs of which the same is said the lines are the same
abbrev pub ExplainedTells : Type 0
ExplainedTells =
    (plan : Plan) (a b : List ℕ) → IsPlan plan → explained plan a ≡ explained plan b
    → written plan a ≡ written plan b
