-- How the comparison of two namespaces ends.
use Rattle.std.proofs.Common.{◌≡◌, ◌∙◌, ℕ, List, sym, ap}
use Rattle.dsdl_types.specs.declared.namespace.Namespace.{Namespace}
use Rattle.compat_check.specs.declared.verdict.Verdict.{Verdict}
use Rattle.type_changes.specs.Lines.{AreChanges}
use Rattle.node_run.specs.Compared.{ended}
use Rattle.node_run.specs.declared.status.Status.{Status}
use Rattle.cyphal.specs.jobs.Changes.{ChangesEnd}
use Rattle.cyphal.proofs.statuses.Verdicts.{well}

-- it ends as the first harm says
pub changes_end : (olds news : Namespace) (lines : List ℕ) (first : Verdict) (stat : Status) → AreChanges olds news lines first → stat ≡ ended first
    → ChangesEnd olds news stat
changes_end olds news lines first stat are e = record {
  lines = lines;
  first = first;
  are = are;
  ends = e;
  harmless = (λ ok. are.harmless.0 (well first (sym e ∙ ok)), λ all. e ∙ ap ended (are.harmless.1 all));
}
