use Rattle.std.proofs.Common.{List, ℕ, subst}
use Rattle.dsdl_types.specs.declared.namespace.Namespace.{Namespace}
use Rattle.node_run.specs.Loaded.{HasLoadCause}
use Rattle.cyphal.proofs.Causes.{same_cause}
use Rattle.cyphal.proofs.TreeCalls.{root_calls, text_calls}
use Rattle.cyphal.proofs.statuses.Among.{of_its_root, root_among}
use Rattle.cyphal.proofs.jobs.migrate.migrated_at.Goals as goal

pub returns-in-Err-clause-cause : goal.returns-in-Err-clause-cause
returns-in-Err-clause-cause g c =
    same_cause Namespace (List ℕ) _ _ c.in-Err.status c.in-Err.ensures.cause

pub returns-clause-cause : goal.returns-clause-cause
returns-clause-cause g c =
    subst (λ (n : ℕ). HasLoadCause {T = (List ℕ)} n (g.T.Tree.faults c.migrated_in.new.tree) c.migrated_in.result) c.in-Ok.ensures.cause c.migrated_in.ensures.cause

pub returns-in-Err-clause-among : goal.returns-in-Err-clause-among
returns-in-Err-clause-among g c =
    let stat = c.in-Err.status in
    of_its_root stat (root_among c.args.root.now (g.T.Tree.files c.args.tree.now) stat c.in-Err.ensures.refused)

pub returns-in-Err-clause-calls : goal.returns-in-Err-clause-calls
returns-in-Err-clause-calls g c = root_calls c.args.root.now c.args.path.now _ _ _ c.in-Err.ensures.calls

pub returns-clause-calls : goal.returns-clause-calls
returns-clause-calls g c = text_calls c.args.root.now c.args.path.now _ _ _ _ _ c.in-Ok.ensures.files c.in-Ok.ensures.calls c.migrated_in.ensures.calls
