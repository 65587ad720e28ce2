use Rattle.dsdl_types.specs.declared.namespace.Namespace.{Namespace}
use Rattle.cyphal.proofs.Causes.{ends_so, no_usage, no_write}
use Rattle.cyphal.proofs.jobs.compile.compile_root.Goals as goal

pub returns-in-Err-clause-cause : goal.returns-in-Err-clause-cause
returns-in-Err-clause-cause g c =
    let err = c.in-Err.ensures in
    ends_so Namespace _ _ _ err.cause _ (no_usage c.args.root.now (g.T.Tree.files c.args.tree.now) c.in-Err.status err.refused) (no_write c.args.root.now (g.T.Tree.files c.args.tree.now) c.in-Err.status err.refused)
