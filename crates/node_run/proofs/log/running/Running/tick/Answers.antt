use Rattle.std.proofs.Common.{◌≡◌, ◌≤◌, ◌∙◌, [], Some, map, refl, sym, ap, subst}
use Rattle.line_text.specs.Buffer.{text_of}
use Rattle.node_plan.specs.Bound.{bound_of}
use Rattle.node_plan.specs.declared.plan.Plan.{Plan}
use Rattle.report_lines.specs.declared.line.Line.TheVariants.{Full}
use Rattle.report_lines.specs.declared.numbers.Numbers.{Numbers}
use Rattle.node_core.specs.Keeps.{beaten, keeps}
use Rattle.node_core.specs.Queues.{fulls}
use Rattle.node_core.specs.Sending.{beat}
use Rattle.node_core.specs.Steps.{Step, Tick, pushed, records}
use Rattle.node_core.specs.Types.{type_on}
use Rattle.node_core.proofs.Steps.{on_err}
use Rattle.node_run.specs.Goes.{state, state_in}
use Rattle.node_run.proofs.Counts.{numbers_tick}
use Rattle.node_run.proofs.Goes.{all_lines_are, broke_in, kept_next, runs_next, sent_is, step_told}
use Rattle.node_run.proofs.Tells.{told_none}
use Rattle.node_run.proofs.log.running.Running.tick.Goals as goal

pub returns-in_err-sent-clause-err : goal.returns-in_err-sent-clause-err
returns-in_err-sent-clause-err g c =
    let style = g.W.ReportWriter.style in
    let lines = g.K.LineSink.lines in
    let self = c.args.self.now in
    let old = state_in style lines self in
    let new = state c.send.new.node (style c.send.new.writer) (lines c.send.new.lines) self.tally.numbers in
    let number = self.clock.number in
    let moment = self.clock.next in
    let s : Step = Tick number moment in
    let k = keeps self.node.now in
    on_err _ c.from_residual.result (λ plan before past f few h failed.
    let em : keeps c.tick-full.new.self ≡ pushed plan s past k = c.tick-full.ensures.keeps ∙ ap (λ (p : Plan). beaten (beat p number k.tid) k) h.same in
    let ef : map Full c.tick-full.result ≡ fulls moment (Some (beat plan number k.tid)) k.queues = c.tick-full.ensures.fulls ∙ ap (λ (p : Plan). fulls moment (Some (beat p number k.tid)) k.queues) h.same in
    broke_in plan before s past old new f _ h (all_lines_are plan before s past old h k (keeps c.tick-full.new.self) h.keeps_are em [] (map Full c.tick-full.result) refl ef) c.in_err-sent.ensures.err refl failed)

pub returns-clause-ok : goal.returns-clause-ok
returns-clause-ok g c plan before past few h =
    let style = g.W.ReportWriter.style in
    let lines = g.K.LineSink.lines in
    let self = c.args.self.now in
    let old = state_in style lines self in
    let new = state c.send.new.node (style c.send.new.writer) (lines c.send.new.lines) c.send-2.new.self.numbers in
    let number = self.clock.number in
    let moment = self.clock.next in
    let s : Step = Tick number moment in
    let k = keeps self.node.now in
    let mid = keeps c.tick-full.new.self in
    let sent = c.in_ok-sent.ensures in
    let em : mid ≡ pushed plan s past k = c.tick-full.ensures.keeps ∙ ap (λ (p : Plan). beaten (beat p number k.tid) k) h.same in
    let ef : map Full c.tick-full.result ≡ fulls moment (Some (beat plan number k.tid)) k.queues = c.tick-full.ensures.fulls ∙ ap (λ (p : Plan). fulls moment (Some (beat p number k.tid)) k.queues) h.same in
    let text = text_of c.args.gathered.now in
    let told = step_told plan before s past old h k mid h.keeps_are em [] (map Full c.tick-full.result) refl ef (type_on plan) text text (text_of c.send.new.gathered) old.told new.told (told_none old.style (type_on plan) text old.told) (sent.told (type_on plan)) in
    let more = sent_is plan before s past old h k mid h.keeps_are em c.in_ok-sent.sent sent.sent in
    let counted = c.send-2.ensures ∙ numbers_tick plan past h.is number moment few old.numbers h.at.counted c.in_ok-sent.sent more in record {
      runs = runs_next plan before s past old new h (c.send.ensures.same.plan ∙ c.tick-full.ensures.plan) (c.send.ensures.same.stands (records past) (c.tick-full.ensures.stands (records past) h.stands))
          (kept_next plan s past k mid (keeps c.send.new.node) h.keeps_are em sent.keeps) c.send.ensures.style told.put counted
          (subst (λ (n : Numbers). n.held ≤ bound_of plan) (sym c.send-2.ensures) h.within);
      same = c.send.ensures.style;
      adds = told.gathered;
    }
