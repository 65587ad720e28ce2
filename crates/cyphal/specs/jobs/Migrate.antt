-- `migrate ROOT PLAN`: a plan's text in version 2.
use Rattle.std.specs.Prelude.{◌≡◌, ℕ, List, Option, Some, IfSome}
use Rattle.std.specs.FinMap as map
use Rattle.cy_outside.specs.Files.{Files}
use Rattle.cy_outside.specs.Written.{behind, Begins}
use Rattle.dsdl_types.specs.declared.namespace.Namespace.{Namespace}
use Rattle.node_plan.specs.Answers.{IsMigrated}
use Rattle.node_run.specs.Loaded.{IsLoaded}
use Rattle.node_run.specs.declared.status.Status.{Status}
use Rattle.node_run.specs.declared.status.Status.TheVariants as status
use Rattle.cyphal.specs.Job.{Job, Printed, ReportsNothing, print_of}
use Rattle.cyphal.specs.jobs.Bound.{bound_job}

-- in a namespace, where the files are told, the file at a path is the text of a plan, and becomes
-- this text of version 2, which is a text of the same plan
abbrev pub Becomes : Namespace → List ℕ → Option Files → List ℕ → Type 0
Becomes names path files new = IfSome files (λ tree.
    (text : List ℕ) × (map.get tree path ≡ Some text) × IsMigrated names text new)

-- what the file at a path becomes, read in the namespace of a root
pub record BecomesAt (root path : List ℕ) (files : Option Files) (new : List ℕ) : Type 0 where
  pub names : Namespace
  pub is : IsLoaded root files names
  pub becomes : Becomes names path files new

-- a text was written, as far as the status says
abbrev pub IsWritten : List ℕ → Status → Option (List ℕ) → Option (List ℕ) → Type 0
IsWritten text status.Ok before after = after ≡ behind before text
IsWritten text status.WriteFault before after = Begins text before after
IsWritten text other before after = ⊥

-- what the plan at a path becomes was written
pub record HasMigratedAt (root path : List ℕ) (files : Option Files)
    (print : Printed) : Type 0 where
  pub text : List ℕ
  pub is : BecomesAt root path files text
  pub written : IsWritten text print.status print.before print.after

-- it ends as `bound` does: each plan has a text of version 2
abbrev pub migrate_job : List ℕ → List ℕ → Job
migrate_job root path = record (bound_job root path) {
  did = λ told came.
      HasMigratedAt root path told.files (print_of told came) × ReportsNothing came;
}
