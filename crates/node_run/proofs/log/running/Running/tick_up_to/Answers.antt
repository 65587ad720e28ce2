use Rattle.std.proofs.Common.{◌≤◌, sym, subst, arith}
use Rattle.line_text.specs.Buffer.{text_of}
use Rattle.node_core.specs.Steps.{ticks_from}
use Rattle.node_run.specs.Goes.{BreaksOff, GoesOn, state_in}
use Rattle.node_run.proofs.Tells.{on_err_by, on_ok_by}
use Rattle.node_run.proofs.Ticks.{left_due}
use Rattle.node_run.proofs.log.running.Running.tick_up_to.Goals as goal

pub returns-clause-ok : goal.returns-clause-ok
returns-clause-ok g c =
    let style = g.W.ReportWriter.style in
    let lines = g.K.LineSink.lines in
    let self = c.args.self.now in
    let after = c.ticks.new.self in
    let number = self.clock.number in
    let next = self.clock.next in
    let moment = c.args.moment in
    let test = c.if-moment-self.false in
    let due : next ≤ moment = omega arith in
    on_ok_by c.ticks.result (λ goes first from.
    subst (λ n. GoesOn (ticks_from first number n) (state_in style lines self) (state_in style lines after) (text_of c.args.gathered.now) (text_of c.ticks.new.gathered))
    (sym (left_due number next moment due)) (goes first (from due))) c.ticks.ensures.ok

pub returns-clause-err : goal.returns-clause-err
returns-clause-err g c =
    let style = g.W.ReportWriter.style in
    let lines = g.K.LineSink.lines in
    let self = c.args.self.now in
    let after = c.ticks.new.self in
    let number = self.clock.number in
    let next = self.clock.next in
    let moment = c.args.moment in
    let test = c.if-moment-self.false in
    let due : next ≤ moment = omega arith in
    on_err_by c.ticks.result (λ breaks first from. subst (λ n. BreaksOff (ticks_from first number n) (state_in style lines self) (state_in style lines after)) (sym (left_due number next moment due)) (breaks first (from due))) c.ticks.ensures.err
