-- What the input gave whole before it failed.
use Rattle.std.specs.Prelude.{◌≡◌, ℕ, List, Some}
use Rattle.frame_log.specs.Input.{Took}
use Rattle.frame_log.specs.declared.error.LogError.TheVariants as error
use Rattle.log_loop.specs.Gone.{FirstOf}
use Rattle.log_loop.specs.Taken.{NoneRefused, whole_records}
use Rattle.node_plan.specs.declared.plan.Plan.{Plan}
use Rattle.node_core.specs.Steps.{Met, met_records, steps}
use Rattle.node_run.specs.Failures.{Failures}
use Rattle.node_run.specs.Forms.{Form}
use Rattle.node_run.specs.Ran.{Reported, Settled, names_of}
use Rattle.node_run.specs.ValueLines.{Flow}

-- no line that ends among these bytes is refused, and the first of these records are those of these
-- lines
pub record AreOfBytes (plan : Plan) (mets : List Met) (bytes : List ℕ)
    (came : List Met) : Type 0 where
  pub unrefused : NoneRefused (names_of plan) bytes
  pub first : FirstOf mets came
  pub records_are : met_records came ≡ whole_records (names_of plan) bytes

-- what is reported and written are the records whose line and newline were taken, each of them
-- whole, and no other; of these are the requests told in which the tree failed
pub record IsOfTaken (form : Form) (plan : Plan) (mets : List Met) (flow : Flow) (r : Reported)
    (f : Failures) : Type 0 where
  pub taken : List ℕ
  pub took : Took flow.left flow.new taken
  pub came : List Met
  pub are : AreOfBytes plan mets taken came
  pub settled : Settled form plan (steps plan came) (Some error.Failed) r f flow.before flow.after
