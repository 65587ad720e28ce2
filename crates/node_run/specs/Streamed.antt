-- How far the input was taken before the lines on what it gave were written.
use Rattle.std.specs.Prelude.{◌≡◌, ◌<◌, ◌≤◌, ◌+◌, ◌^◌, ◌⊎◌, ◌++◌, ℕ, List, Option, length}
use Rattle.frame_log.specs.Input.{Took}
use Rattle.log_loop.specs.Gone.{FirstOf}
use Rattle.log_loop.specs.Streamed.{HasWritten}
use Rattle.node_plan.specs.declared.plan.Plan.{Plan}
use Rattle.node_core.specs.Steps.{Met, Step, steps, lines, numbers}
use Rattle.node_core.specs.Types.{type_on}
use Rattle.report_lines.specs.declared.line.Line.{Line}
use Rattle.text_lines.specs.Text.{text}
use Rattle.node_run.specs.Forms.{Form, Text, Json, Spells}
use Rattle.node_run.specs.Ran.{Reported, At, AtEnd, Emptied, Tells}
use Rattle.node_run.specs.Taken.{AreOfBytes}
use Rattle.node_run.specs.ValueLines.{Flow}
use Rattle.node_run.specs.declared.status.Status.{Status}
use Rattle.node_run.specs.declared.status.Status.TheVariants as status

-- in JSON: a text of the lines of these steps is written
pub record HasWrittenJson (plan : Plan) (all : List Step)
    (before after : Option (List ℕ)) : Type 0 where
  pub said : List ℕ
  pub spelled : Spells Json (type_on plan) plan.buses (lines plan all) said
  pub written : HasWritten said before after

-- the lines of these steps are written
abbrev pub HasWrittenLines : Form → Plan → List Step → Option (List ℕ) → Option (List ℕ) → Type 0
HasWrittenLines Text plan all before after =
    HasWritten (text plan.buses (lines plan all)) before after
HasWrittenLines Json plan all before after = HasWrittenJson plan all before after

-- the lines of the steps over the records whose line ends among these bytes are written
pub record WritesBytes (form : Form) (plan : Plan) (mets : List Met) (flow : Flow)
    (bytes : List ℕ) : Type 0 where
  pub came : List Met
  pub are : AreOfBytes plan mets bytes came
  pub written : HasWrittenLines form plan (steps plan came) flow.before flow.after

-- these steps are reported and counted, with some newer ones, and then some lines
pub record ReportsOn (plan : Plan) (all : List Step) (r : Reported) : Type 0 where
  pub newer : List Step
  pub told : List Line
  pub at : Tells (lines plan (newer ++ all) ++ told) (numbers plan (newer ++ all)) r

-- These steps are reported and counted; so is what left behind them, where the log was read to its
-- end, but that the last line may not be written, and this not be counted. Where memory was
-- wanting, newer steps may be too, and lines of the next one.
abbrev pub IsReported : Status → Plan → List Step → Reported → Type 0
IsReported status.NoMemory plan all r = ReportsOn plan all r
IsReported other plan all r = At plan all r ⊎ (AtEnd plan all r ⊎ Emptied plan all r)

-- the steps over the records whose line ends among these bytes are reported and counted, with those
-- of some newer ones
pub record ReportsBytes (plan : Plan) (mets : List Met) (stat : Status) (r : Reported)
    (bytes : List ℕ) : Type 0 where
  pub came : List Met
  pub are : AreOfBytes plan mets bytes came
  pub newer : List Met
  pub first : FirstOf mets (newer ++ came)
  pub reported : IsReported stat plan (steps plan (newer ++ came)) r

-- However a run ended: it took at most 2 ^ 28 bytes and one more. Of each front of the bytes that
-- it took, behind which it took more than 8,192 bytes, the lines are written, reported and counted.
pub record IsStreamed (form : Form) (plan : Plan) (mets : List Met) (flow : Flow) (stat : Status)
    (r : Reported) : Type 0 where
  pub taken : List ℕ
  pub took : Took flow.left flow.new taken
  pub few : length taken ≤ 2 ^ 28 + 1
  pub written : (front more : List ℕ) → taken ≡ front ++ more → 8192 < length more
      → WritesBytes form plan mets flow front
  pub reported : (front more : List ℕ) → taken ≡ front ++ more → 8192 < length more
      → ReportsBytes plan mets stat r front
