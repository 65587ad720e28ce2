use Rattle.std.proofs.Common.{◌≤◌, refl, sym, ap, ap₂, subst, ◌∙◌, []}
use Rattle.node_plan.specs.Bound.{bound_of}
use Rattle.report_lines.specs.declared.numbers.Numbers.{Numbers}
use Rattle.node_run.specs.declared.status.Status.TheVariants as status
use Rattle.node_run.specs.Failures.{failures, tree_counts}
use Rattle.node_run.specs.Goes.{state, state_in}
use Rattle.node_run.specs.HasRun.{HasRun}
use Rattle.node_run.specs.Listens.{HasHeardAll, views}
use Rattle.node_run.specs.Ran.{reported, At}
use Rattle.node_run.specs.ValueLines.{flow}
use Rattle.node_run.proofs.Fails.{failed_none}
use Rattle.node_run.proofs.Runs.{are_runs, bound_all, over_all, run_bound, run_gone, run_held}
use Rattle.node_run.proofs.Starts.{at_none, has_none, hears_none}
use Rattle.node_run.proofs.log.run.run_with.Goals as goal

pub returns-in_default-clause-ran : goal.returns-in_default-clause-ran
returns-in_default-clause-ran g c =
    let lines = g.K.LineSink.lines c.args.lines.now in
    let failed = g.K.LineSink.failed c.args.lines.now in
    let files = g.T.Tree.files c.args.tree.now in
    let counts = tree_counts (g.T.Tree.faults c.args.tree.now) (g.T.Tree.calls c.args.tree.now) in
    let written = g.O.Sink.written c.args.out.now in
    let left = g.L.Source.left c.args.input.now in
    let style = g.W.ReportWriter.style c.args.writer.now in
    subst (λ (n : Numbers). HasRun style.form c.args.plan files (flow left left written written) status.NoMemory (reported lines lines n) (failures failed failed counts counts)) (sym c.new.ensures)
    (has_none style files c.args.plan left lines c.bound-bound.result written failed counts c.bound-bound.ensures.value)

pub listen-ended-requires-clause-heard : goal.listen-ended-requires-clause-heard
listen-ended-requires-clause-heard g c =
    let plan = c.in-Ok.node.plan in
    let lines = g.K.LineSink.lines c.args.lines.now in
    let stands = c.in-Ok.ensures.stands in
    let same = c.in-Ok.ensures.plan in
    let numbers = c.new-3.ensures in
    let at = at_none plan lines c.held.result c.bound-bound.result (c.held.ensures.held [] stands) (c.bound-bound.ensures.value ∙ ap bound_of (sym same)) in
    let style = g.W.ReportWriter.style c.args.writer.now in
    let met : HasHeardAll (views g.W.ReportWriter.style g.K.LineSink.lines g.K.LineSink.failed g.T.Tree.files g.T.Tree.faults g.T.Tree.calls) _ _ [] = record {
      over = record { lines = refl; tree = refl; told = refl; style = refl };
      hears = hears_none c.args.plan lines (state c.in-Ok.node style lines c.new-3.result.numbers) c.new-2.result c.requires.plan (sym same) stands c.in-Ok.ensures.keeps c.requires.buses
          (subst (λ (n : Numbers). At plan [] (reported lines lines n)) (sym numbers) at) (subst (λ (n : Numbers). n.held ≤ bound_of plan) (sym numbers) (c.held.ensures.bound [] stands)) c.new-2.ensures.number c.new-2.ensures.next
          (ap (λ (n : Numbers). n.records) numbers);
      failed = failed_none (g.K.LineSink.failed c.args.lines.now) (tree_counts (g.T.Tree.faults c.args.tree.now) (g.T.Tree.calls c.args.tree.now));
    } in record { met = met; said = tt }

pub returns-clause-ran : goal.returns-clause-ran
returns-clause-ran g c =
    let v = views g.W.ReportWriter.style g.K.LineSink.lines g.K.LineSink.failed g.T.Tree.files g.T.Tree.faults g.T.Tree.calls in
    let left = g.L.Source.left in
    let written = g.O.Sink.written in
    let run = c.listen-ended.new.listener in
    let heard = c.listen-ended.ensures.listened in
    let over = over_all v _ run _ _ _ _ _ _ _ heard in
    let lines = v.lines c.args.lines.now in
    let failed = v.failed c.args.lines.now in
    let counts = tree_counts (v.faults c.args.tree.now) (v.calls c.args.tree.now) in
    run_gone (v.style c.args.writer.now) (v.files c.args.tree.now) c.args.plan c.in-Ok.node.plan c.in-Ok.ensures.plan c.requires.buses c.names_of-names.result c.names_of-names.ensures lines (state_in v.style v.lines run) run.sent _ _ (are_runs v _ run)
    (left c.args.input.now) (left c.listen-ended.new.input) (written c.args.out.now) (written c.listen-ended.new.out) c.listen-ended.result heard c.status_of.result c.status_of.ensures
    _ (ap₂ (reported lines) (ap v.lines (c.lines-1.given.1 (sym over.lines))) c.numbers_of.ensures) _ (ap₂ (λ told now. failures failed told counts now) (ap v.failed (c.lines-1.given.1 (sym over.lines))) (ap (λ tree. tree_counts (v.faults tree) (v.calls tree)) (c.tree-1.given.1 (sym over.tree))))

pub returns-clause-files : goal.returns-clause-files
returns-clause-files g c =
    let v = views g.W.ReportWriter.style g.K.LineSink.lines g.K.LineSink.failed g.T.Tree.files g.T.Tree.faults g.T.Tree.calls in
    let over = over_all v _ c.listen-ended.new.listener _ _ _ _ _ _ _ c.listen-ended.ensures.listened in
    ap v.files (c.tree-1.given.1 (sym over.tree)) ∙ over.told

pub returns-clause-bound : goal.returns-clause-bound
returns-clause-bound g c =
    let v = views g.W.ReportWriter.style g.K.LineSink.lines g.K.LineSink.failed g.T.Tree.files g.T.Tree.faults g.T.Tree.calls in
    let run = c.listen-ended.new.listener in
    let bound = bound_all v _ run _ _ _ _ _ _ _ c.listen-ended.ensures.listened in
    run_bound c.args.plan c.in-Ok.node.plan c.in-Ok.ensures.plan c.listen-ended.result run.tally.numbers c.numbers_of.result run.sent c.numbers_of.ensures bound.0

pub returns-clause-held : goal.returns-clause-held
returns-clause-held g c =
    let v = views g.W.ReportWriter.style g.K.LineSink.lines g.K.LineSink.failed g.T.Tree.files g.T.Tree.faults g.T.Tree.calls in
    let run = c.listen-ended.new.listener in
    let bound = bound_all v _ run _ _ _ _ _ _ _ c.listen-ended.ensures.listened in
    run_held c.in-Ok.node.plan c.listen-ended.result run.tally.numbers c.numbers_of.result run.sent c.numbers_of.ensures bound
