-- What a run of a plan did with the log of an input.
use Rattle.std.specs.Prelude.{◌≡◌, ℕ, List, Option, IfSome}
use Rattle.cy_outside.specs.Files.{Files}
use Rattle.frame_log.specs.Log.{log_of}
use Rattle.node_plan.specs.declared.plan.Plan.{Plan}
use Rattle.node_core.specs.Steps.{AreServed, Met, met_records, steps}
use Rattle.node_run.specs.Failures.{Failures}
use Rattle.node_run.specs.Forms.{Form}
use Rattle.node_run.specs.Ran.{Ran, Reported, names_of, newest_first}
use Rattle.node_run.specs.Streamed.{IsStreamed}
use Rattle.node_run.specs.Taken.{IsOfTaken}
use Rattle.node_run.specs.ValueLines.{Flow}
use Rattle.node_run.specs.declared.status.Status.{Status}
use Rattle.node_run.specs.declared.status.Status.TheVariants as status

-- There are records of the log of an input, each with what the tree told of a file: by these, and
-- by one list of their steps, the run is reported, and written in a form, and told are the requests
-- in which the tree failed. The log is that of the told bytes, where the input tells them, and the
-- tree told what its files say, where it tells these, or failed.
pub record HasRun (form : Form) (plan : Plan) (files : Option Files) (flow : Flow) (stat : Status)
    (r : Reported) (f : Failures) : Type 0 where
  pub bytes : List ℕ
  pub is : IfSome flow.left (λ (left : List ℕ). bytes ≡ left)
  pub mets : List Met
  pub of_log : met_records mets ≡ newest_first (log_of (names_of plan) bytes)
  pub served : AreServed files plan (steps plan mets)
  pub ran : Ran form plan mets (log_of (names_of plan) bytes).refusal stat r f
      flow.before flow.after
  pub taken : stat ≡ status.ReadFault → IsOfTaken form plan mets flow r f
  pub streamed : IsStreamed form plan mets flow stat r
