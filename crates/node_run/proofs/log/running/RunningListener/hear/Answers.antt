use Rattle.std.proofs.Common.{◌≤◌, ◌∙◌, Some, refl, arith}
use Rattle.line_text.specs.Buffer.{text_of}
use Rattle.node_core.specs.Steps.{met}
use Rattle.node_core.proofs.Steps.{on_err}
use Rattle.node_run.specs.Goes.{last_tick}
use Rattle.node_run.specs.Hears.{said}
use Rattle.node_run.specs.Listens.{views}
use Rattle.node_run.proofs.Listens.{breaks_record, breaks_ticks, hears_record, said_last}
use Rattle.node_run.proofs.Tells.{on_err_by, on_ok_both, on_ok_by}
use Rattle.node_run.proofs.log.running.RunningListener.hear.Goals as goal

pub returns-in_err-tick_up_to-clause-broke : goal.returns-in_err-tick_up_to-clause-broke
returns-in_err-tick_up_to-clause-broke g c =
    let v = views g.W.ReportWriter.style g.K.LineSink.lines g.K.LineSink.failed g.T.Tree.files g.T.Tree.faults g.T.Tree.calls in
    let self = c.args.self.now in
    let rec = c.args.rec.now in
    let last : last_tick self.clock.number self.clock.next ≤ rec.moment = omega (arith, c.requires.moment) in
    on_err _ c.from_residual.result (λ first past h.
    breaks_ticks _ _ _ v rec self c.tick_up_to.new.self c.tick_up_to.ensures.asks c.requires.moment_low last c.requires.count first past h c.in_err-tick_up_to.ensures.err)

pub returns-clause-heard : goal.returns-clause-heard
returns-clause-heard g c =
    let v = views g.W.ReportWriter.style g.K.LineSink.lines g.K.LineSink.failed g.T.Tree.files g.T.Tree.faults g.T.Tree.calls in
    let self = c.args.self.now in
    let rec = c.args.rec.now in
    let last : last_tick self.clock.number self.clock.next ≤ rec.moment = omega (arith, c.requires.moment) in
    on_ok_by c.take.result (λ both. record {
      event = said (met rec both.0.file) (Some (said_last (text_of c.args.gathered.now) (text_of c.take.new.gathered)));
      of = λ first. refl;
      goes = λ first past h.
          hears_record _ _ _ v rec self c.tick_up_to.new.self c.tick_up_to.ensures.asks c.requires.moment_low last c.requires.count first past h (text_of c.args.gathered.now) (text_of c.tick_up_to.new.gathered) c.in_ok-tick_up_to.ensures.ok c.take.new.self c.take.ensures.over (text_of c.take.new.gathered) both.0
          (c.take.ensures.number ∙ c.in_ok-tick_up_to.ensures.number) (c.take.ensures.next ∙ c.in_ok-tick_up_to.ensures.next) both.1;
    }) (on_ok_both _ _ c.take.result c.take.ensures.ok c.take.ensures.last)

pub returns-clause-broke : goal.returns-clause-broke
returns-clause-broke g c =
    let v = views g.W.ReportWriter.style g.K.LineSink.lines g.K.LineSink.failed g.T.Tree.files g.T.Tree.faults g.T.Tree.calls in
    let self = c.args.self.now in
    let rec = c.args.rec.now in
    let last : last_tick self.clock.number self.clock.next ≤ rec.moment = omega (arith, c.requires.moment) in
    on_err_by c.take.result (λ breaks first past h.
    breaks_record _ _ _ v rec self c.tick_up_to.new.self c.tick_up_to.ensures.asks c.requires.moment_low last c.requires.count first past h (text_of c.args.gathered.now) (text_of c.tick_up_to.new.gathered) c.in_ok-tick_up_to.ensures.ok c.take.new.self c.take.ensures.over breaks) c.take.ensures.err
