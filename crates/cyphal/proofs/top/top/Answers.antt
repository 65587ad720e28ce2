use Rattle.std.proofs.Common.{subst, map, string_bytes}
use Rattle.node_run.specs.Failures.{tree_counts}
use Rattle.cyphal.specs.Answered.{IsAnswered}
use Rattle.cyphal.specs.Cause.{outside}
use Rattle.cyphal.specs.Job.{Outcome, told_by}
use Rattle.cyphal.proofs.Answered.{kept_report, reported_of}
use Rattle.cyphal.proofs.top.top.Goals as goal

pub returns-clause-answered : goal.returns-clause-answered
returns-clause-answered g c =
    let done = c.run_words-done in
    let told = told_by (g.T.Tree.files c.args.tree.now) (g.L.Source.left c.args.input.now) (g.O.Sink.written c.args.out.now) in
    let old = outside (g.T.Tree.faults c.args.tree.now) (g.L.Source.faults c.args.input.now) (g.O.Sink.faults c.args.out.now) c.args.input.now in
    let new = outside (g.T.Tree.faults done.new.tree) (g.L.Source.faults done.new.input) (g.O.Sink.faults done.new.out) done.new.input in
    subst (λ (came : Outcome). IsAnswered (map string_bytes c.args.words.now) told came old new)
    (kept_report c.new-kept.result.lines done.new.lines.lines c.new-kept.result.failed done.new.lines.failed done.result.numbers c.report_of-report.result
    (tree_counts (g.T.Tree.faults c.args.tree.now) (g.T.Tree.calls c.args.tree.now)) (tree_counts (g.T.Tree.faults done.new.tree) (g.T.Tree.calls done.new.tree)) done.result.status _ _ c.new-kept.ensures.lines c.new-kept.ensures.failed c.report_of-report.ensures.lines c.report_of-report.ensures.failed c.report_of-report.ensures.numbers) done.ensures.answered

pub returns-clause-reported : goal.returns-clause-reported
returns-clause-reported g c = reported_of _ _ _ _ _ _ _ _ _ (returns-clause-answered g c)
