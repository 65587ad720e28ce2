-- The lines on a log beside those of a run of the same plan.
use Rattle.std.specs.Prelude.{◌≡◌, ℕ, List, [], ◌∷◌, ◌++◌, Option, Some, None}
use Rattle.tail_frame.specs.declared.logged.Record.{Record}
use Rattle.node_plan.specs.declared.plan.Plan.{Plan}
use Rattle.node_core.specs.Steps.{Met, all_lines, badcrcs, got, is_bad_at, met_records, steps}
use Rattle.report_lines.specs.declared.line.Line.{Line}
use Rattle.report_lines.specs.declared.line.Line.TheVariants.{Rx, NoSession as Refusal, Tx, Full}
use Rattle.log_explain.specs.ReasonLaws.{delivered_at, is_badcrc}
use Rattle.log_explain.specs.declared.reasons.reason.Reason.{Reason}
use Rattle.log_explain.specs.declared.reasons.reason.Reason.TheVariants.{NoSession}
use Rattle.log_explain.specs.Counts.{count}
use Rattle.log_explain.specs.Explained.{listens_by}
use Rattle.log_explain.specs.Lines.{line_on, lines}
use Rattle.log_explain.specs.declared.line.FrameLine.{FrameLine}

-- the lines of the log on which the first and the last frame of each transfer stand that these
-- lines of a run tell
abbrev pub rx_lines : List Line → List (ℕ × ℕ)
rx_lines [] = []
rx_lines (Rx rx ∷ lines) = (rx.first, rx.last) ∷ rx_lines lines
rx_lines (Refusal refused ∷ lines) = rx_lines lines
rx_lines (Tx tx ∷ lines) = rx_lines lines
rx_lines (Full full ∷ lines) = rx_lines lines

-- those on which start frames stand that had no session
abbrev pub nosession_lines : List Line → List ℕ
nosession_lines [] = []
nosession_lines (Rx rx ∷ lines) = nosession_lines lines
nosession_lines (Refusal refused ∷ lines) = refused.line ∷ nosession_lines lines
nosession_lines (Tx tx ∷ lines) = nosession_lines lines
nosession_lines (Full full ∷ lines) = nosession_lines lines

-- the same of the line on a record
abbrev pub listed : Option (ℕ × ℕ) → List (ℕ × ℕ)
listed None = []
listed (Some lines) = lines ∷ []

abbrev pub delivered_lines : FrameLine → List (ℕ × ℕ)
delivered_lines line = listed (delivered_at line.line line.reason)

abbrev pub refused_at : ℕ → Reason → List ℕ
refused_at line NoSession = line ∷ []
refused_at line _ = []

abbrev pub refused_lines : FrameLine → List ℕ
refused_lines line = refused_at line.line line.reason

-- a record is told as delivered, as refused a session, and as a bad CRC exactly where a run of the
-- same plan, whose lines on what a record gives these are, tells the same of it, and with the same
-- lines of the log
pub record AsRun : Type 0 where
  pub delivered : (plan : Plan) (rec : Record) (past : List Record)
      → delivered_lines (line_on (listens_by plan) rec past) ≡ rx_lines (got plan rec past)
  pub refused : (plan : Plan) (rec : Record) (past : List Record)
      → refused_lines (line_on (listens_by plan) rec past) ≡ nosession_lines (got plan rec past)
  pub bad_crcs : (plan : Plan) (rec : Record) (past : List Record)
      → is_badcrc (line_on (listens_by plan) rec past).reason ≡ is_bad_at plan rec past

-- those of the lines on all records, the first one first
abbrev pub told_lines : List FrameLine → List (ℕ × ℕ)
told_lines [] = []
told_lines (line ∷ past) = told_lines past ++ delivered_lines line

abbrev pub told_refusals : List FrameLine → List ℕ
told_refusals [] = []
told_refusals (line ∷ past) = told_refusals past ++ refused_lines line

-- over a whole log, whatever files the tree of the run told: the transfers that are told as
-- delivered are those of the run's `rx` lines, in their order; so it is of the start frames without
-- a session; and as many bad CRCs are told
pub record AsRuns : Type 0 where
  pub delivered : (plan : Plan) (mets : List Met)
      → told_lines (lines (listens_by plan) (met_records mets))
      ≡ rx_lines (all_lines plan (steps plan mets))
  pub refused : (plan : Plan) (mets : List Met)
      → told_refusals (lines (listens_by plan) (met_records mets))
      ≡ nosession_lines (all_lines plan (steps plan mets))
  pub bad_crcs : (plan : Plan) (mets : List Met)
      → count is_badcrc (lines (listens_by plan) (met_records mets))
      ≡ badcrcs plan (steps plan mets)
