-- `compat ROOT NEW OLD`: whether one type of a root is newer than another.
use Rattle.std.specs.Prelude.{◌≡◌, ◌⊎◌, ◌↔◌, ℕ, true, false, ◌||◌, List, Option, is_some}
use Rattle.cy_outside.specs.Files.{Files}
use Rattle.dsdl_types.specs.declared.namespace.Namespace.{Namespace}
use Rattle.node_run.specs.Compared.{compared, HasCompared, IsNewer}
use Rattle.node_run.specs.Loaded.{is_none, IsLoaded, IsNotLoaded, calls_of}
use Rattle.node_run.specs.declared.status.Status.{Status}
use Rattle.node_run.specs.declared.status.Status.TheVariants as status
use Rattle.cyphal.specs.Job.{Job, Printed, ReportsNothing, print_of, is_fault}
use Rattle.cyphal.specs.MayEnd.{of_root, of_types}

-- The root has a namespace, and this is how the comparison in it ends: well exactly where the one
-- type is newer than the other.
pub record CompareIn (root new old : List ℕ) (files : Option Files) (stat : Status) : Type 0 where
  pub names : Namespace
  pub is : IsLoaded root files names
  pub ends : stat ≡ compared names new old
  pub newer : (stat ≡ status.Ok) ↔ IsNewer names new old

-- what comparing two types of a root comes to: why the root has no namespace, or how the comparison
-- in it ends
abbrev pub Compares : List ℕ → List ℕ → List ℕ → Option Files → Status → Type 0
Compares root new old files stat = (is_fault stat ≡ false)
    × (IsNotLoaded root files stat ⊎ CompareIn root new old files stat)

-- two types of the namespace of a root were compared, and what was written of it
pub record HasComparedAt (root new old : List ℕ) (files : Option Files)
    (print : Printed) : Type 0 where
  pub names : Namespace
  pub is : IsLoaded root files names
  pub compared : HasCompared names new old print.status print.before print.after

-- no files are needed where the root is `none`
abbrev pub compat_job : List ℕ → List ℕ → List ℕ → Job
compat_job root new old = record {
  calls_tree = true;
  needs = calls_of root;
  takes_input = false;
  serves = false;
  may_end = λ stat. of_root stat || of_types stat;
  is_told = λ told. is_none root || is_some told.files;
  expects = λ told stat. Compares root new old told.files stat;
  did = λ told came.
      HasComparedAt root new old told.files (print_of told came) × ReportsNothing came;
}
