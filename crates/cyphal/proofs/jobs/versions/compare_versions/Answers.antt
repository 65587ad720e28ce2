use Rattle.std.proofs.Common.{inr}
use Rattle.dsdl_types.specs.declared.namespace.Namespace.{Namespace}
use Rattle.type_versions.specs.Lines.{AreVersions}
use Rattle.cyphal.proofs.Causes.{ends_so, no_usage, no_write}
use Rattle.cyphal.proofs.statuses.Verdicts.{told_usage, told_read}
use Rattle.cyphal.proofs.jobs.versions.compare_versions.Goals as goal

pub returns-in-Err-clause-cause : goal.returns-in-Err-clause-cause
returns-in-Err-clause-cause g c =
    let err = c.in-Err.ensures in
    ends_so Namespace _ _ _ err.cause _ (no_usage c.args.root.now (g.T.Tree.files c.args.tree.now) c.in-Err.status err.refused) (no_write c.args.root.now (g.T.Tree.files c.args.tree.now) c.in-Err.status err.refused)

pub returns-clause-answer : goal.returns-clause-answer
returns-clause-answer g c h =
    (h, inr (record { names = c.in-Ok.names; is = c.in-Ok.ensures.loaded; compared = c.write_versions.ensures.ends h }))

pub returns-clause-cause : goal.returns-clause-cause
returns-clause-cause g c =
    let told = c.write_versions.ensures.written in record {
      usage = told_usage (AreVersions c.in-Ok.names) c.write_versions.result _ _ told;
      read = λ e. absurd (told_read (AreVersions c.in-Ok.names) c.write_versions.result _ _ told e);
      write = c.write_versions.ensures.write;
      unwritten = c.write_versions.ensures.unwritten;
      kept = λ e. c.in-Ok.ensures.cause;
    }
