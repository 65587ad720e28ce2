-- `versions ROOT`: whether each version of a type below a root is newer than the one before it.
use Rattle.std.specs.Prelude.{◌≡◌, ◌⊎◌, ◌↔◌, ℕ, true, false, ◌||◌, List, Option, is_some}
use Rattle.std.specs.List.{All}
use Rattle.cy_outside.specs.Files.{Files}
use Rattle.dsdl_types.specs.declared.namespace.Namespace.{Namespace}
use Rattle.compat_check.specs.declared.verdict.Verdict.{Verdict}
use Rattle.type_versions.specs.Lines.{AreVersions, IsNewerPair}
use Rattle.type_versions.specs.Pairs.{version_pairs}
use Rattle.node_run.specs.Compared.{ended}
use Rattle.node_run.specs.Loaded.{is_none, IsLoaded, IsNotLoaded, calls_of}
use Rattle.node_run.specs.declared.status.Status.{Status}
use Rattle.node_run.specs.declared.status.Status.TheVariants as status
use Rattle.cyphal.specs.Job.{Job, Printed, ReportsNothing, print_of, is_fault}
use Rattle.cyphal.specs.MayEnd.{of_root, of_verdicts}
use Rattle.cyphal.specs.Verdicts.{HasTold}

-- how the comparisons of a namespace's versions end: as that of the first version that isn't newer
-- than the one before it, and well exactly where each is newer
pub record VersionsEnd (names : Namespace) (stat : Status) : Type 0 where
  pub lines : List ℕ
  pub first : Verdict
  pub are : AreVersions names lines first
  pub ends : stat ≡ ended first
  pub newer : (stat ≡ status.Ok) ↔ All IsNewerPair (version_pairs are.sorted)

-- the root has a namespace, and this is how the comparisons of its versions end
pub record VersionsIn (root : List ℕ) (files : Option Files) (stat : Status) : Type 0 where
  pub names : Namespace
  pub is : IsLoaded root files names
  pub compared : VersionsEnd names stat

-- what comparing the versions below a root comes to: why the root has no namespace, or how the
-- comparisons in it end
abbrev pub ComparesVersions : List ℕ → Option Files → Status → Type 0
ComparesVersions root files stat = (is_fault stat ≡ false)
    × (IsNotLoaded root files stat ⊎ VersionsIn root files stat)

-- the lines of the versions below a root were written, as far as the status says
pub record HasVersionsAt (root : List ℕ) (files : Option Files) (print : Printed) : Type 0 where
  pub names : Namespace
  pub is : IsLoaded root files names
  pub written : HasTold (AreVersions names) print.status print.before print.after

-- no files are needed where the root is `none`
abbrev pub versions_job : List ℕ → Job
versions_job root = record {
  calls_tree = true;
  takes_input = false;
  serves = false;
  needs = calls_of root;
  may_end = λ stat. of_root stat || of_verdicts stat;
  is_told = λ told. is_none root || is_some told.files;
  expects = λ told stat. ComparesVersions root told.files stat;
  did = λ told came.
      HasVersionsAt root told.files (print_of told came) × ReportsNothing came;
}
