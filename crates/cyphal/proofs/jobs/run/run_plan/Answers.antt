use Rattle.std.proofs.Common.{inl, inr, ℕ, true, Option, refl, subst}
use Rattle.node_plan.specs.declared.plan.Plan.{Plan}
use Rattle.cy_outside.specs.Files.{Files}
use Rattle.node_run.specs.Failures.{failures, tree_counts}
use Rattle.node_run.specs.HasRun.{HasRun}
use Rattle.node_run.specs.ValueLines.{flow}
use Rattle.node_run.specs.Ran.{reported}
use Rattle.cyphal.specs.MayEnd.{of_log, of_plan}
use Rattle.cyphal.specs.jobs.Run.{over, run_job}
use Rattle.cyphal.proofs.CarriedOut.{read_out}
use Rattle.cyphal.proofs.Causes.{ends_so_over, took_nothing}
use Rattle.cyphal.proofs.Plans.{refused_at, good_at}
use Rattle.cyphal.proofs.statuses.Among.{of_first, of_second, run_among}
use Rattle.cyphal.proofs.statuses.Run.{plan_answer, run_not_refused}
use Rattle.cyphal.proofs.jobs.run.run_plan.Goals as goal

pub returns-in-Err-clause-done : goal.returns-in-Err-clause-done
returns-in-Err-clause-done g c =
    let root = c.args.root.now in
    let path = c.args.path.now in
    let stat = c.in-Err.status in
    let err = c.in-Err.ensures in
    read_out (run_job c.args.form root path) _ stat _ _ refl c.nothing.result c.nothing.ensures g.L.Source.left _ _ _ ⊥ refl
    (λ h. refused_at (over (g.L.Source.left c.args.input.now)) root path (g.T.Tree.files c.args.tree.now) stat (err.answer h))
    (of_first (of_plan stat) (of_log stat) err.among)
    (ends_so_over Plan _ _ stat err.cause _ _ _ err.write true true)
    (inl (took_nothing Plan _ _ stat err.cause _ _ _ err.write _ err.early))
    (λ d. absurd d)

pub returns-in-Err-clause-needed : goal.returns-in-Err-clause-needed
returns-in-Err-clause-needed g c = λ fault input. c.in-Err.ensures.calls

pub returns-in-Err-clause-refused : goal.returns-in-Err-clause-refused
returns-in-Err-clause-refused g c = λ refused. c.in-Err.ensures.calls

pub returns-clause-refused : goal.returns-clause-refused
returns-clause-refused g c = λ refused. absurd (run_not_refused c.args.form c.in-Ok.plan _ _ c.run_in-status.result _ _ c.run_in-status.ensures.ran refused)

pub returns-clause-needed : goal.returns-clause-needed
returns-clause-needed g c = λ fault input. absurd (input (c.run_in-status.ensures.read fault))

pub returns-clause-done : goal.returns-clause-done
returns-clause-done g c =
    let root = c.args.root.now in
    let path = c.args.path.now in
    let form = c.args.form in
    let plan = c.in-Ok.plan in
    let run = c.run_in-status in
    let done = run.ensures in
    let files = g.T.Tree.files c.args.tree.now in
    let told = flow (g.L.Source.left c.args.input.now) (g.L.Source.left run.new.input) (g.O.Sink.written c.args.out.now) (g.O.Sink.written run.new.out) in
    let put = reported (g.K.LineSink.lines c.args.lines.now) (g.K.LineSink.lines run.new.lines) run.new.numbers in
    let calls = g.T.Tree.calls c.plan_at.new.tree in
    let failed = λ (faults : ℕ). failures (g.K.LineSink.failed c.args.lines.now) (g.K.LineSink.failed run.new.lines) (tree_counts faults calls) (tree_counts (g.T.Tree.faults run.new.tree) (g.T.Tree.calls run.new.tree)) in
    let ran = subst (λ (f : Option Files). HasRun form plan f told run.result put (failed (g.T.Tree.faults c.args.tree.now))) c.in-Ok.ensures.files
    (subst (λ (n : ℕ). HasRun form plan (g.T.Tree.files c.plan_at.new.tree) told run.result put (failed n)) c.in-Ok.ensures.cause done.ran) in
    record {
      answer = λ h. good_at (over (g.L.Source.left c.args.input.now)) root path files run.result plan c.in-Ok.ensures.plan (plan_answer form plan _ _ run.result _ _ ran h) h;
      among = of_second (of_plan run.result) (of_log run.result) (run_among form plan _ _ run.result _ _ ran);
      cause = record {
        read = λ e. inr (done.read e);
        untaken = λ e. absurd cc;
        refused = λ e. absurd (run_not_refused form plan _ _ run.result _ _ ran e);
        early = λ e. absurd (run_not_refused form plan _ _ run.result _ _ ran e);
        write = done.write;
        unread = done.unread;
        unwritten = done.unwritten;
        unserved = λ e. absurd cc;
      };
      ran = inr (record { plan = plan; is = c.in-Ok.ensures.plan; run = record { calls = calls; loaded = c.in-Ok.ensures.calls; is = ran }; bound = done.bound });
      held = done.held;
    }
