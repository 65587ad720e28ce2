-- `bound ROOT PLAN`: the memory bound of a plan.
use Rattle.std.specs.Prelude.{◌≡◌, ℕ, true, false, ◌||◌, List, Option, is_some}
use Rattle.cy_outside.specs.Files.{Files}
use Rattle.node_plan.specs.declared.plan.Plan.{Plan}
use Rattle.node_run.specs.BoundText.{HasBound}
use Rattle.node_run.specs.declared.status.Status.TheVariants as status
use Rattle.cyphal.specs.Job.{Job, Printed, ReportsNothing, print_of}
use Rattle.cyphal.specs.MayEnd.{of_plan, of_text}
use Rattle.cyphal.specs.Plans.{PlanEnds, EndsAt, PlanAt, plan_calls}

-- each plan has a memory bound
abbrev pub bounded : PlanEnds
bounded plan stat = stat ≡ status.Ok

-- the memory bound of the plan at a path was written, as far as the status says
pub record HasBoundAt (root path : List ℕ) (files : Option Files)
    (print : Printed) : Type 0 where
  pub plan : Plan
  pub is : PlanAt root path files plan
  pub bound : HasBound plan print.status print.before print.after

abbrev pub bound_job : List ℕ → List ℕ → Job
bound_job root path = record {
  calls_tree = true;
  needs = plan_calls root path;
  takes_input = false;
  serves = false;
  may_end = λ stat. of_plan stat || of_text stat;
  is_told = λ told. is_some told.files;
  expects = λ told stat. EndsAt bounded root path told.files stat;
  did = λ told came.
      HasBoundAt root path told.files (print_of told came) × ReportsNothing came;
}
