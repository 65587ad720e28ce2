-- What a run over a log has reported and written.
use Rattle.std.specs.Prelude.{◌≡◌, ◌⊎◌, ◌++◌, ℕ, List, [], ◌∷◌, Option, Some, None, map}
use Rattle.cy_outside.specs.Written.{behind, Begins}
use Rattle.node_plan.specs.declared.plan.BusPlan.{BusPlan}
use Rattle.node_plan.specs.declared.plan.Plan.{Plan}
pub use Rattle.frame_log.specs.Refusals.{refusal_of}
use Rattle.frame_log.specs.declared.error.LogError.{LogError}
use Rattle.frame_log.specs.declared.error.LogError.TheVariants as error
use Rattle.frame_log.specs.declared.error.LogWhy.TheVariants as why
use Rattle.log_loop.specs.Gone.{FirstOf}
pub use Rattle.log_loop.specs.Voice.{newest_first}
use Rattle.report_lines.specs.declared.line.Line.{Line}
use Rattle.report_lines.specs.declared.numbers.Numbers.{Numbers}
use Rattle.report_lines.specs.LineSinks.{put_behind}
use Rattle.node_core.specs.Steps.{Met, Step, steps, lines, lines_at, emptying, all_lines, numbers}
use Rattle.node_core.specs.Steps.{end_numbers}
use Rattle.node_core.specs.Types.{type_on}
use Rattle.text_lines.specs.Text.{text, end_text}
use Rattle.json_lines.specs.Text.{end_json}
use Rattle.log_loop.specs.declared.ended.Ended.{Ended}
use Rattle.log_loop.specs.declared.ended.Ended.TheVariants as end
use Rattle.node_run.specs.Failures.{Failures, AreFailures, TellsFailures, TreeCounts, failures}
use Rattle.node_run.specs.Forms.{Form, Text, Json, Spells}
use Rattle.node_run.specs.declared.report.Report.{Report}
use Rattle.node_run.specs.declared.status.Status.{Status}
use Rattle.node_run.specs.declared.status.Status.TheVariants as status

-- the names of a plan's buses
abbrev pub names_of : Plan → List (List ℕ)
names_of plan = map (λ (bus : BusPlan). bus.name) plan.buses

-- what was reported: the lines that a sink of lines told before, those that it tells now, and the
-- numbers
pub record Reported : Type 0 where
  pub old : Option (List Line)
  pub new : Option (List Line)
  pub numbers : Numbers

abbrev pub reported : Option (List Line) → Option (List Line) → Numbers → Reported
reported old new numbers = record { old = old; new = new; numbers = numbers }

abbrev pub numbers_of : Report → Numbers
numbers_of r = record { records = r.records; delivered = r.delivered; badcrc = r.badcrc; nosession = r.nosession; sent = r.sent; held = r.held; bound = r.bound }

-- what was reported where nothing was before
abbrev pub of_report : Report → Reported
of_report r = reported (Some []) (Some r.lines) (numbers_of r)

-- the requests in which the tree failed that a report has, where it had none before, by the
-- tree's counts before and now
abbrev pub of_failed : Report → TreeCounts → TreeCounts → Failures
of_failed r before now = failures (Some []) (Some r.failed) before now

-- the numbers of nothing
abbrev pub no_numbers : Numbers
no_numbers = record { records = 0; delivered = 0; badcrc = 0; nosession = 0; sent = 0; held = 0; bound = 0 }

-- a report before a run
pub record IsEmpty (r : Report) : Type 0 where
  pub reported : r.lines ≡ []
  pub counted : numbers_of r ≡ no_numbers
  pub failed : r.failed ≡ []

-- these lines are reported, and these are the numbers
pub record Tells (told : List Line) (counted_as : Numbers) (r : Reported) : Type 0 where
  pub reported : r.new ≡ put_behind r.old told
  pub counted : r.numbers ≡ counted_as

-- these steps are reported and counted
abbrev pub At : Plan → List Step → Reported → Type 0
At plan all r = Tells (lines plan all) (numbers plan all) r

-- and behind them what left when a log was read to its end
abbrev pub AtEnd : Plan → List Step → Reported → Type 0
AtEnd plan all r = Tells (all_lines plan all) (end_numbers plan all) r

-- that is reported, but not yet counted
abbrev pub Emptied : Plan → List Step → Reported → Type 0
Emptied plan all r = Tells (all_lines plan all) (numbers plan all) r

-- all lines that are due on a log with these steps that ends so
abbrev pub due_lines : Plan → List Step → Option LogError → List Line
due_lines plan all None = all_lines plan all
due_lines plan all (Some refusal) = lines plan all

-- and the numbers
abbrev pub due_numbers : Plan → List Step → Option LogError → Numbers
due_numbers plan all None = end_numbers plan all
due_numbers plan all (Some refusal) = numbers plan all

-- the lines of the first of these steps, the first of which stands last
abbrev pub first_lines : Plan → Step → List Step → List Step → List Line
first_lines plan step [] past = lines_at plan step past
first_lines plan step (older ∷ newer) past = first_lines plan older newer past

-- the lines that come next: those of the first of the newer steps, or behind the last one those of
-- what leaves at the end
abbrev pub next_lines : Plan → List Step → List Step → Option LogError → List Line
next_lines plan [] past None = emptying plan past
next_lines plan [] past (Some refusal) = []
next_lines plan (step ∷ newer) past refusal = first_lines plan step newer past

-- The first of these steps are reported and counted, and the requests among them in which the tree
-- failed are told. Of what comes next the first lines are reported, and nothing is counted or told.
pub record AtFirst (plan : Plan) (all : List Step) (refusal : Option LogError) (r : Reported)
    (f : Failures) : Type 0 where
  pub newer : List Step
  pub past : List Step
  pub parts : all ≡ newer ++ past
  pub told : List Line
  pub rest : List Line
  pub next : next_lines plan newer past refusal ≡ told ++ rest
  pub at : Tells (lines plan past ++ told) (numbers plan past) r
  pub failed : TellsFailures past f

-- the last line comes only where the log was read to its end
abbrev pub end_part : Plan → List Step → Option LogError → List ℕ
end_part plan all None = end_text (end_numbers plan all)
end_part plan all (Some refusal) = []

-- all that is written of a log with these steps that ends so
abbrev pub whole_text : Plan → List Step → Option LogError → List ℕ
whole_text plan all refusal = text plan.buses (due_lines plan all refusal) ++ end_part plan all refusal

-- the same in JSON: the last line
abbrev pub json_end_part : Plan → List Step → Option LogError → List ℕ
json_end_part plan all None = end_json (end_numbers plan all)
json_end_part plan all (Some refusal) = []

-- in JSON: a text of all lines that are due, and the last line
pub record IsJsonWritten (plan : Plan) (all : List Step) (refusal : Option LogError)
    (before after : Option (List ℕ)) : Type 0 where
  pub said : List ℕ
  pub spelled : Spells Json (type_on plan) plan.buses (due_lines plan all refusal) said
  pub written : after ≡ behind before (said ++ json_end_part plan all refusal)

-- in JSON: a beginning of a text of the first lines that are due, or of all and the last line
pub record IsJsonBegun (plan : Plan) (all : List Step) (refusal : Option LogError)
    (before after : Option (List ℕ)) : Type 0 where
  pub front : List Line
  pub rest : List Line
  pub parts : due_lines plan all refusal ≡ front ++ rest
  pub said : List ℕ
  pub spelled : Spells Json (type_on plan) plan.buses front said
  pub end : List ℕ
  pub ended : (end ≡ []) ⊎ ((rest ≡ []) × (end ≡ json_end_part plan all refusal))
  pub written : Begins (said ++ end) before after

-- all that is written of a log with these steps that ends so
abbrev pub IsWritten : Form → Plan → List Step → Option LogError → Option (List ℕ)
    → Option (List ℕ) → Type 0
IsWritten Text plan all refusal before after = after ≡ behind before (whole_text plan all refusal)
IsWritten Json plan all refusal before after = IsJsonWritten plan all refusal before after

-- a beginning of it
abbrev pub IsBegun : Form → Plan → List Step → Option LogError → Option (List ℕ) → Option (List ℕ)
    → Type 0
IsBegun Text plan all refusal before after = Begins (whole_text plan all refusal) before after
IsBegun Json plan all refusal before after = IsJsonBegun plan all refusal before after

-- all is reported, counted and written, and the requests in which the tree failed are told
pub record Settled (form : Form) (plan : Plan) (all : List Step) (refusal : Option LogError)
    (r : Reported) (f : Failures) (before after : Option (List ℕ)) : Type 0 where
  pub at : Tells (due_lines plan all refusal) (due_numbers plan all refusal) r
  pub failed : AreFailures all f
  pub written : IsWritten form plan all refusal before after

-- a beginning of a text of the lines of the first of these steps is written, and nothing else
pub record BeginsSteps (form : Form) (plan : Plan) (all : List Step)
    (before after : Option (List ℕ)) : Type 0 where
  pub came : List Step
  pub first : FirstOf all came
  pub said : List ℕ
  pub spelled : Spells form (type_on plan) plan.buses (lines plan came) said
  pub written : Begins said before after

-- the first steps are reported and counted, and a beginning of their lines is written, so one of
-- all that is due
pub record Begun (form : Form) (plan : Plan) (all : List Step) (refusal : Option LogError)
    (r : Reported) (f : Failures) (before after : Option (List ℕ)) : Type 0 where
  pub first : AtFirst plan all refusal r f
  pub of_first : BeginsSteps form plan first.past before after
  pub written : IsBegun form plan all refusal before after

-- The same where a write failed: no step broke off, so no line of another one is reported, and the
-- tree failed in no other request. Or all lines that are due are reported, and a beginning of all
-- is written.
pub record CutOff (form : Form) (plan : Plan) (all : List Step) (refusal : Option LogError)
    (r : Reported) (f : Failures) (before after : Option (List ℕ)) : Type 0 where
  pub first : AtFirst plan all refusal r f
  pub failed : AreFailures first.past f
  pub of_first : ((first.told ≡ []) × BeginsSteps form plan first.past before after)
      ⊎ ((first.newer ≡ []) × (first.rest ≡ []))
  pub written : IsBegun form plan all refusal before after

-- exactly the first records are reported and written, each of them whole
pub record Upto (form : Form) (plan : Plan) (mets : List Met) (r : Reported) (f : Failures)
    (before after : Option (List ℕ)) : Type 0 where
  pub came : List Met
  pub first : FirstOf mets came
  pub settled : Settled form plan (steps plan came) (Some error.Failed) r f before after

-- what a run has done over a log with these records that ends so, by its status
abbrev pub Ran : Form → Plan → List Met → Option LogError → Status → Reported → Failures
    → Option (List ℕ) → Option (List ℕ) → Type 0
Ran form plan mets refusal status.Ok r f before after =
    (refusal ≡ None) × Settled form plan (steps plan mets) refusal r f before after
Ran form plan mets refusal (status.Log line why) r f before after =
    (refusal ≡ Some (refusal_of line why))
    × Settled form plan (steps plan mets) refusal r f before after
Ran form plan mets refusal status.LogLong r f before after =
    (refusal ≡ Some error.LogLong) × Settled form plan (steps plan mets) refusal r f before after
Ran form plan mets refusal status.ReadFault r f before after = Upto form plan mets r f before after
Ran form plan mets refusal status.WriteFault r f before after =
    CutOff form plan (steps plan mets) refusal r f before after
Ran form plan mets refusal status.NoMemory r f before after =
    Begun form plan (steps plan mets) refusal r f before after
Ran form plan mets refusal other r f before after = ⊥

-- the status of a run that the log ended
abbrev pub refused : LogError → Status
refused (error.BadLine line) = status.Log line why.BadLine
refused (error.TimeBack line) = status.Log line why.TimeBack
refused (error.UnknownBus line) = status.Log line why.UnknownBus
refused (error.TooFar line) = status.Log line why.TooFar
refused error.LogLong = status.LogLong
refused error.Failed = status.ReadFault

-- the status of a run, by how its loop over the log ended
abbrev pub status_of : Ended → Status
status_of end.Ok = status.Ok
status_of (end.Log line why) = status.Log line why
status_of end.LogLong = status.LogLong
status_of end.ReadFault = status.ReadFault
status_of end.WriteFault = status.WriteFault
status_of end.NoMemory = status.NoMemory

-- the numbers of a run, by how its loop over the log ended: those of its steps, and at the end so
-- many frames sent
abbrev pub end_sent : Ended → Numbers → ℕ → Numbers
end_sent end.Ok numbers sent = record numbers { sent = sent }
end_sent other numbers sent = numbers
