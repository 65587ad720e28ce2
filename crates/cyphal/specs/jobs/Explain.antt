-- `explain ROOT PLAN`: what became of each frame of the log of the input, by a plan.
use Rattle.std.specs.Prelude.{ℕ, true, false, ◌&&◌, ◌||◌, List, Option, IfSome, is_some}
use Rattle.cy_outside.specs.Files.{Files}
use Rattle.log_explain.specs.Explained.{explain_voice}
use Rattle.node_plan.specs.declared.plan.Plan.{Plan}
use Rattle.node_run.specs.Ran.{names_of}
use Rattle.node_run.specs.ValueLines.{Flow}
use Rattle.node_run.specs.declared.status.Status.{Status}
use Rattle.cyphal.specs.Delivered.{DeliveredOnce, DueDelivered, SessionsAreTold}
use Rattle.cyphal.specs.Job.{Job, ReportsNothing, flow_of}
use Rattle.cyphal.specs.MayEnd.{of_plan, of_log}
use Rattle.cyphal.specs.Plans.{EndsAt, PlanAt, plan_calls}
use Rattle.cyphal.specs.jobs.Reach.{HasListened}
use Rattle.cyphal.specs.jobs.Run.{over}

-- The plan at a path was taken, and what was written is what is said of the log's records by it.
-- Where the input is told, the sessions that are told are those of the plan; and the lines of a
-- session that say `delivered` are of sent transfers, in order and at most once, and each transfer
-- that is due has one.
pub record HasExplainedAt (root path : List ℕ) (files : Option Files) (stat : Status)
    (told : Flow) : Type 0 where
  pub plan : Plan
  pub is : PlanAt root path files plan
  pub listened : HasListened (names_of plan) (explain_voice plan) stat told
  pub sessions : IfSome told.left (SessionsAreTold plan)
  pub explained_once : IfSome told.left (DeliveredOnce plan)
  pub explained_due : IfSome told.left (DueDelivered plan)

-- it ends as a run of the plan does
abbrev pub explain_job : List ℕ → List ℕ → Job
explain_job root path = record {
  calls_tree = true;
  needs = plan_calls root path;
  takes_input = true;
  serves = false;
  may_end = λ stat. of_plan stat || of_log stat;
  is_told = λ told. is_some told.files && is_some told.input;
  expects = λ told stat. EndsAt (over told.input) root path told.files stat;
  did = λ told came.
      HasExplainedAt root path told.files came.status (flow_of told came)
      × ReportsNothing came;
}
