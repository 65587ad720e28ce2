use Rattle.std.proofs.Common.{◌∙◌, ◌≤◌, ◌^◌, [], List, length, refl, sym, ap, ap₂, subst, append-nil, arith}
use Rattle.line_text.specs.Buffer.{text_of}
use Rattle.report_lines.specs.declared.line.Line.{Line}
use Rattle.report_lines.specs.declared.numbers.Numbers.{Numbers}
use Rattle.report_lines.specs.LineSinks.{BeginsList, put_behind}
use Rattle.node_core.specs.Steps.{emptying, lines, steps}
use Rattle.node_core.specs.Types.{type_on}
use Rattle.node_core.proofs.Steps.{on_err}
use Rattle.node_run.specs.Failures.{failures, tree_counts}
use Rattle.node_run.specs.Goes.{state_in}
use Rattle.node_run.specs.Hears.{mets_of}
use Rattle.node_run.specs.Ran.{reported}
use Rattle.node_run.proofs.Counts.{sent_at_end}
use Rattle.node_run.proofs.Fails.{failed_stay}
use Rattle.node_run.proofs.Goes.{first_cut}
use Rattle.node_run.proofs.Leaving.{ends_with, leaving_heard}
use Rattle.node_run.proofs.Tells.{put_more}
use Rattle.node_run.proofs.log.running.RunningListener.finish.Goals as goal

pub returns-in_err-emptied-clause-cut_short : goal.returns-in_err-emptied-clause-cut_short
returns-in_err-emptied-clause-cut_short g c =
    let W = g.W.ReportWriter.style in
    let K = g.K.LineSink.lines in
    let self = c.args.self.now in
    on_err _ c.from_residual.result (λ first past hh.
    let h = hh.met.hears in
    let plan = first.node.now.plan in
    let all = steps plan (mets_of past) in
    let same = leaving_heard plan (K first.lines.now) (state_in W K self) self.clock (mets_of past) h in record {
      met = record {
        over = record { lines = hh.met.over.lines; tree = hh.met.over.tree; told = hh.met.over.told; style = c.empty.ensures.style ∙ hh.met.over.style };
        cut = record {
          first = first_cut plan all (reported (K first.lines.now) (K c.empty.new.lines) self.tally.numbers) (failures (g.K.LineSink.failed first.lines.now) (g.K.LineSink.failed c.empty.new.lines) (tree_counts (g.T.Tree.faults first.tree.now) (g.T.Tree.calls first.tree.now)) (tree_counts (g.T.Tree.faults self.tree.now) (g.T.Tree.calls self.tree.now)))
              (K self.lines.now) h.runs.at.reported
              (subst (λ (ls : List Line). BeginsList ls (K self.lines.now) (K c.empty.new.lines)) same c.in_err-emptied.ensures.err) h.runs.at.counted
              (failed_stay all (g.K.LineSink.failed first.lines.now) (g.K.LineSink.failed self.lines.now) (g.K.LineSink.failed c.empty.new.lines) (tree_counts (g.T.Tree.faults first.tree.now) (g.T.Tree.calls first.tree.now)) (tree_counts (g.T.Tree.faults self.tree.now) (g.T.Tree.calls self.tree.now)) c.empty.ensures.untold hh.met.failed).tells;
          behind = record { newer = []; parts = refl };
          within = h.runs.within;
        };
      };
      said = hh.said;
    })

pub returns-in_err-push_end-clause-cut_short : goal.returns-in_err-push_end-clause-cut_short
returns-in_err-push_end-clause-cut_short g c =
    let W = g.W.ReportWriter.style in
    let K = g.K.LineSink.lines in
    let self = c.args.self.now in
    on_err _ c.from_residual-in_err-push_end.result (λ first past hh.
    let h = hh.met.hears in
    let plan = first.node.now.plan in
    let all = steps plan (mets_of past) in
    let same = leaving_heard plan (K first.lines.now) (state_in W K self) self.clock (mets_of past) h in
    let put = (c.in_ok-emptied.ensures.told (type_on plan)).put in record {
      met = record {
        over = record { lines = hh.met.over.lines; tree = hh.met.over.tree; told = hh.met.over.told; style = c.empty.ensures.style ∙ hh.met.over.style };
        cut = record {
          first = first_cut plan all (reported (K first.lines.now) (K c.empty.new.lines) self.tally.numbers) (failures (g.K.LineSink.failed first.lines.now) (g.K.LineSink.failed c.empty.new.lines) (tree_counts (g.T.Tree.faults first.tree.now) (g.T.Tree.calls first.tree.now)) (tree_counts (g.T.Tree.faults self.tree.now) (g.T.Tree.calls self.tree.now)))
              (K self.lines.now) h.runs.at.reported
              (record { front = emptying plan all; rest = []; whole = sym (append-nil (emptying plan all)); put = put ∙ ap (put_behind (K self.lines.now)) same }) h.runs.at.counted
              (failed_stay all (g.K.LineSink.failed first.lines.now) (g.K.LineSink.failed self.lines.now) (g.K.LineSink.failed c.empty.new.lines) (tree_counts (g.T.Tree.faults first.tree.now) (g.T.Tree.calls first.tree.now)) (tree_counts (g.T.Tree.faults self.tree.now) (g.T.Tree.calls self.tree.now)) c.empty.ensures.untold hh.met.failed).tells;
          behind = record { newer = []; parts = refl };
          within = h.runs.within;
        };
      };
      said = hh.said;
    })

pub returns-clause-ended : goal.returns-clause-ended
returns-clause-ended g c first past hh =
    let W = g.W.ReportWriter.style in
    let K = g.K.LineSink.lines in
    let self = c.args.self.now in
    let h = hh.met.hears in
    let plan = first.node.now.plan in
    let all = steps plan (mets_of past) in
    let same = leaving_heard plan (K first.lines.now) (state_in W K self) self.clock (mets_of past) h in
    let put = (c.in_ok-emptied.ensures.told (type_on plan)).put ∙ ap (put_behind (K self.lines.now)) same in
    let few : length all ≤ 2 ^ 50 = omega (arith, h.few, h.few_records, h.few_ticks) in
    let sent = sent_at_end plan all h.runs.is few self.tally.numbers.sent (ap (λ (n : Numbers). n.sent) h.runs.at.counted) c.in_ok-emptied.emptied (c.in_ok-emptied.ensures.sent ∙ ap length same) in record {
      met = record {
        over = record { lines = hh.met.over.lines; tree = hh.met.over.tree; told = hh.met.over.told; style = c.empty.ensures.style ∙ hh.met.over.style };
        failed = failed_stay all (g.K.LineSink.failed first.lines.now) (g.K.LineSink.failed self.lines.now) (g.K.LineSink.failed c.empty.new.lines) (tree_counts (g.T.Tree.faults first.tree.now) (g.T.Tree.calls first.tree.now)) (tree_counts (g.T.Tree.faults self.tree.now) (g.T.Tree.calls self.tree.now)) c.empty.ensures.untold hh.met.failed;
        ended = record {
          at = record { reported = put ∙ (ap (λ o. put_behind o (emptying plan all)) h.runs.at.reported ∙ put_more (K first.lines.now) (lines plan all) (emptying plan all)); counted = h.runs.at.counted };
          sent_is = c.saturating_add-sent.ensures ∙ sent;
          within = h.runs.within;
        };
      };
      said = hh.said;
    }

pub returns-clause-text : goal.returns-clause-text
returns-clause-text g c first past hh =
    let W = g.W.ReportWriter.style in
    let K = g.K.LineSink.lines in
    let self = c.args.self.now in
    let h = hh.met.hears in
    let plan = first.node.now.plan in
    let all = steps plan (mets_of past) in
    let same = leaving_heard plan (K first.lines.now) (state_in W K self) self.clock (mets_of past) h in
    let few : length all ≤ 2 ^ 50 = omega (arith, h.few, h.few_records, h.few_ticks) in
    let sent = sent_at_end plan all h.runs.is few self.tally.numbers.sent (ap (λ (n : Numbers). n.sent) h.runs.at.counted) c.in_ok-emptied.emptied (c.in_ok-emptied.ensures.sent ∙ ap length same) in
    let numbers = ap₂ (λ (n : Numbers) m. record n { sent = m }) h.runs.at.counted (c.saturating_add-sent.ensures ∙ sent) in
    ends_with (W first.writer.now) (W self.writer.now) hh.met.over.style plan all (text_of c.args.gathered.now) (text_of c.empty.new.gathered) _ _ same
    (c.in_ok-emptied.ensures.told (type_on plan)).gathered _ numbers (W c.empty.new.writer) c.empty.ensures.style c.in_ok-push_end.ensures.ok
