use Rattle.std.proofs.Common.{inr}
use Rattle.dsdl_types.specs.declared.namespace.Namespace.{Namespace}
use Rattle.cyphal.proofs.Causes.{ends_so, no_usage, no_write}
use Rattle.cyphal.proofs.statuses.Compat.{compared_answer, compared_usage, compared_read, newer_ends}
use Rattle.cyphal.proofs.jobs.compat.compat_types.Goals as goal

pub returns-in-Err-clause-cause : goal.returns-in-Err-clause-cause
returns-in-Err-clause-cause g c =
    let err = c.in-Err.ensures in
    ends_so Namespace _ _ _ err.cause _ (no_usage c.args.root.now (g.T.Tree.files c.args.tree.now) c.in-Err.status err.refused) (no_write c.args.root.now (g.T.Tree.files c.args.tree.now) c.in-Err.status err.refused)

pub returns-clause-answer : goal.returns-clause-answer
returns-clause-answer g c h =
    let written = g.O.Sink.written in
    let names = c.in-Ok.names in
    let new = c.args.new.now in
    let old = c.args.old.now in
    let ends = compared_answer names new old c.compat.result (written c.args.out.now) (written c.compat.new.out) c.compat.ensures.compared h in (
      h,
      inr (record {
        names = names;
        is = c.in-Ok.ensures.loaded;
        ends = ends;
        newer = newer_ends names new old c.compat.result ends c.compat.ensures.newer;
      }),
    )

pub returns-clause-cause : goal.returns-clause-cause
returns-clause-cause g c =
    let written = g.O.Sink.written in record {
      usage = compared_usage c.in-Ok.names c.args.new.now c.args.old.now c.compat.result (written c.args.out.now) (written c.compat.new.out) c.compat.ensures.compared;
      read = λ e. absurd (compared_read c.in-Ok.names c.args.new.now c.args.old.now c.compat.result (written c.args.out.now) (written c.compat.new.out) c.compat.ensures.compared e);
      write = c.compat.ensures.write;
      unwritten = c.compat.ensures.unwritten;
      kept = λ e. c.in-Ok.ensures.cause;
    }
