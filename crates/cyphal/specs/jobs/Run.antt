-- `run ROOT PLAN` and `json ROOT PLAN`: a plan over the log of the input.
use Rattle.std.specs.Prelude.{◌≡◌, ℕ, true, ◌&&◌, ◌||◌, List, Option, is_some}
use Rattle.node_plan.specs.Bound.{bound_of}
use Rattle.node_plan.specs.declared.plan.Plan.{Plan}
use Rattle.node_run.specs.declared.form.Form.{Form}
use Rattle.node_run.specs.HasRun.{HasRun}
use Rattle.node_run.specs.Ran.{names_of}
use Rattle.cyphal.specs.Job.{Told, Outcome, Job, flow_of}
use Rattle.cyphal.specs.MayEnd.{of_plan, of_log}
use Rattle.cyphal.specs.LogEnds.{EndsAsLog}
use Rattle.cyphal.specs.Plans.{PlanEnds, EndsAt, PlanAt, SinceLoaded, plan_calls}

-- a run of a plan ends as the log of the input does
abbrev pub over : Option (List ℕ) → PlanEnds
over input plan stat = EndsAsLog (names_of plan) input stat

-- The plan at a path was run over the input and the files of the tree, and the report written in a
-- form; behind the plan's reading the tree was called by the run alone. The memory bound is the
-- plan's however the run ended.
pub record HasRunAt (form : Form) (root path : List ℕ) (told : Told) (came : Outcome) : Type 0 where
  pub plan : Plan
  pub is : PlanAt root path told.files plan
  pub run : SinceLoaded root path told.files came.failures
      (HasRun form plan told.files (flow_of told came) came.status came.reported)
  pub bound : came.reported.numbers.bound ≡ bound_of plan

abbrev pub run_job : Form → List ℕ → List ℕ → Job
run_job form root path = record {
  calls_tree = true;
  needs = plan_calls root path;
  takes_input = true;
  serves = true;
  may_end = λ stat. of_plan stat || of_log stat;
  is_told = λ told. is_some told.files && is_some told.input;
  expects = λ told stat. EndsAt (over told.input) root path told.files stat;
  did = λ told came. HasRunAt form root path told came;
}
