-- How the comparisons of versions end.
use Rattle.std.proofs.Common.{◌≡◌, ◌∙◌, ℕ, List, sym, ap}
use Rattle.dsdl_types.specs.declared.namespace.Namespace.{Namespace}
use Rattle.compat_check.specs.declared.verdict.Verdict.{Verdict}
use Rattle.type_versions.specs.Lines.{AreVersions}
use Rattle.node_run.specs.Compared.{ended}
use Rattle.node_run.specs.declared.status.Status.{Status}
use Rattle.cyphal.specs.jobs.Versions.{VersionsEnd}
use Rattle.cyphal.proofs.statuses.Verdicts.{well}

-- they end as the first verdict that isn't yes says
pub versions_end : (names : Namespace) (lines : List ℕ) (first : Verdict) (stat : Status) → AreVersions names lines first → stat ≡ ended first
    → VersionsEnd names stat
versions_end names lines first stat are e = record {
  lines = lines;
  first = first;
  are = are;
  ends = e;
  newer = (λ ok. are.newer.0 (well first (sym e ∙ ok)), λ all. e ∙ ap ended (are.newer.1 all));
}
