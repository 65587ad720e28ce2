-- `compile ROOT`: the layouts of the types below a root.
use Rattle.std.specs.Prelude.{ℕ, true, false, ◌||◌, List, Option, is_some}
use Rattle.cy_outside.specs.Files.{Files}
use Rattle.dsdl_types.specs.declared.namespace.Namespace.{Namespace}
use Rattle.node_run.specs.Layouts.{HasLayouts}
use Rattle.node_run.specs.Loaded.{is_none, IsLoaded, IsNotLoaded, calls_of}
use Rattle.node_run.specs.declared.status.Status.{Status}
use Rattle.node_run.specs.declared.status.Status.TheVariants as status
use Rattle.cyphal.specs.Job.{Job, Printed, ReportsNothing, print_of}
use Rattle.cyphal.specs.MayEnd.{of_root, of_text}

-- what compiling the files of a root comes to: their namespace, or why there is none
abbrev pub Compiles : List ℕ → Option Files → Status → Type 0
Compiles root files status.Ok = (names : Namespace) × IsLoaded root files names
Compiles root files (status.NoFile path) = IsNotLoaded root files (status.NoFile path)
Compiles root files (status.Dsdl path line why) = IsNotLoaded root files (status.Dsdl path line why)
Compiles root files other = ⊥

-- the layouts of the namespace of a root were written, as far as the status says
pub record HasCompiledAt (root : List ℕ) (files : Option Files) (print : Printed) : Type 0 where
  pub names : Namespace
  pub is : IsLoaded root files names
  pub layouts : HasLayouts names print.status print.before print.after

-- no files are needed where the root is `none`
abbrev pub compile_job : List ℕ → Job
compile_job root = record {
  calls_tree = true;
  needs = calls_of root;
  takes_input = false;
  serves = false;
  may_end = λ stat. of_root stat || of_text stat;
  is_told = λ told. is_none root || is_some told.files;
  expects = λ told stat. Compiles root told.files stat;
  did = λ told came.
      HasCompiledAt root told.files (print_of told came) × ReportsNothing came;
}
