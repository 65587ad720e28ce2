-- `changes OLD NEW`: what an edit of a folder does to those who have its types.
use Rattle.std.specs.Prelude.{◌≡◌, ◌⊎◌, ◌↔◌, ℕ, ◌+◌, true, false, ◌||◌, ◌&&◌, List, Option, is_some}
use Rattle.std.specs.List.{All}
use Rattle.cy_outside.specs.Files.{Files}
use Rattle.dsdl_types.specs.declared.namespace.Namespace.{Namespace}
use Rattle.compat_check.specs.declared.verdict.Verdict.{Verdict}
use Rattle.type_changes.specs.Entries.{paired}
use Rattle.type_changes.specs.Lines.{AreChanges, IsHarmless}
use Rattle.node_run.specs.Compared.{ended}
use Rattle.node_run.specs.Loaded.{is_none, IsLoaded, IsNotLoaded, calls_of}
use Rattle.node_run.specs.declared.status.Status.{Status}
use Rattle.node_run.specs.declared.status.Status.TheVariants as status
use Rattle.cyphal.specs.Job.{Job, Printed, ReportsNothing, print_of, is_fault}
use Rattle.cyphal.specs.MayEnd.{of_root, of_verdicts}
use Rattle.cyphal.specs.Verdicts.{HasTold}

-- how the comparison of an old and a new namespace ends: as the first harm says, and well exactly
-- where all that the old one has is kept
pub record ChangesEnd (olds news : Namespace) (stat : Status) : Type 0 where
  pub lines : List ℕ
  pub first : Verdict
  pub are : AreChanges olds news lines first
  pub ends : stat ≡ ended first
  pub harmless : (stat ≡ status.Ok) ↔ All IsHarmless (paired are.olds are.news)

-- the old folder has a namespace, and this is why the new one has none
pub record NewIsNotLoaded (old new : List ℕ) (files : Option Files) (stat : Status) : Type 0 where
  pub olds : Namespace
  pub is_old : IsLoaded old files olds
  pub refused : IsNotLoaded new files stat

-- both folders have a namespace, and this is how their comparison ends
pub record ChangesIn (old new : List ℕ) (files : Option Files) (stat : Status) : Type 0 where
  pub olds : Namespace
  pub news : Namespace
  pub is_old : IsLoaded old files olds
  pub is_new : IsLoaded new files news
  pub compared : ChangesEnd olds news stat

-- what comparing two folders comes to: why the old one has no namespace, or else the new one, or
-- how the comparison of the two ends
abbrev pub TellsChanges : List ℕ → List ℕ → Option Files → Status → Type 0
TellsChanges old new files stat = (is_fault stat ≡ false) × (IsNotLoaded old files stat
    ⊎ (NewIsNotLoaded old new files stat ⊎ ChangesIn old new files stat))

-- the lines of the types of two folders were written, as far as the status says
pub record HasChangesAt (old new : List ℕ) (files : Option Files) (print : Printed) : Type 0 where
  pub olds : Namespace
  pub news : Namespace
  pub is_old : IsLoaded old files olds
  pub is_new : IsLoaded new files news
  pub written : HasTold (AreChanges olds news) print.status print.before print.after

-- how many calls of a tree with these files both namespaces take at most
abbrev pub calls_of_both : List ℕ → List ℕ → Files → ℕ
calls_of_both old new files = calls_of old files + calls_of new files

-- no files are needed of a folder that is `none`
abbrev pub changes_job : List ℕ → List ℕ → Job
changes_job old new = record {
  calls_tree = true;
  takes_input = false;
  serves = false;
  needs = calls_of_both old new;
  may_end = λ stat. of_root stat || of_verdicts stat;
  is_told = λ told.
      (is_none old || is_some told.files) && (is_none new || is_some told.files);
  expects = λ told stat. TellsChanges old new told.files stat;
  did = λ told came.
      HasChangesAt old new told.files (print_of told came) × ReportsNothing came;
}
