use Rattle.std.proofs.Common.{◌≡◌, ◌∙◌, ◌+◌, ◌*◌, ◌<◌, [], ◌∷◌, List, subst, arith}
use Rattle.line_text.specs.Buffer.{text_of}
use Rattle.node_core.specs.Steps.{Step, Tick, ticks_from}
use Rattle.node_core.proofs.Steps.{on_err}
use Rattle.node_run.specs.Goes.{GoesOn, begun_next, state_in, ticks_due}
use Rattle.node_run.proofs.Goes.{goes_more, ticks_broke}
use Rattle.node_run.proofs.Listens.{asks_then}
use Rattle.node_run.proofs.Steps.{tick_more}
use Rattle.node_run.proofs.log.running.Running.ticks.Goals as goal

pub loop-tick-preserved : goal.loop-tick-preserved
loop-tick-preserved g c =
    let i = c.loop-tick.invariant in
    let style = g.W.ReportWriter.style in
    let lines = g.K.LineSink.lines in
    let fn = c.args.self.now in
    let now = c.loop-tick.self in
    let after = c.tick.new.self in
    let number = fn.clock.number in
    let n = c.loop-tick.tick in
    let next = begun_next number fn.clock.next c.args.moment in
    let old = state_in style lines fn in
    let mid = state_in style lines now in
    let new = state_in style lines after in
    let text = text_of c.args.gathered.now in
    let tick = c.in_ok-tick.ensures in record {
      asks = asks_then i.asks c.tick.ensures.asks;
      latest = c.tick.ensures.latest ∙ i.latest;
      records = c.tick.ensures.records ∙ i.records;
      due = i.due;
      number = omega (arith, tick.number, i.number);
      next_is = omega (arith, tick.next, i.next_is);
      ok = λ first e.
          let at : now.clock.next ≡ first + (number + n) * 1000000 = omega (arith, i.next_is, e) in
          subst (λ (ss : List Step). GoesOn ss old new text (text_of c.tick.new.gathered)) (tick_more first number n now.clock.number now.clock.next i.number at)
          (goes_more (ticks_from first number n) (Tick now.clock.number now.clock.next ∷ []) old mid new text (text_of c.loop-tick.gathered) (text_of c.tick.new.gathered) (i.ok first e) tick.ok);
    }

pub returns-in_err-tick-clause-err : goal.returns-in_err-tick-clause-err
returns-in_err-tick-clause-err g c =
    let i = c.loop-tick.invariant in
    let style = g.W.ReportWriter.style in
    let lines = g.K.LineSink.lines in
    let fn = c.args.self.now in
    let now = c.loop-tick.self in
    let after = c.tick.new.self in
    let number = fn.clock.number in
    let n = c.loop-tick.tick in
    let next = begun_next number fn.clock.next c.args.moment in
    let due = ticks_due next c.args.moment in
    let old = state_in style lines fn in
    let mid = state_in style lines now in
    let new = state_in style lines after in
    on_err _ c.from_residual.result (λ first e.
    let at : now.clock.next ≡ first + (number + n) * 1000000 = omega (arith, i.next_is, e) in
    let below = subst (λ m. n < m) i.due c.loop-tick-test.true in
    ticks_broke first number due n now.clock.number now.clock.next below i.number at old mid new (text_of c.args.gathered.now) (text_of c.loop-tick.gathered) (i.ok first e) c.in_err-tick.ensures.err)

pub returns-clause-ok : goal.returns-clause-ok
returns-clause-ok g c first e =
    let i = c.loop-tick.invariant in
    let style = g.W.ReportWriter.style in
    let lines = g.K.LineSink.lines in
    let fn = c.args.self.now in
    let now = c.loop-tick.self in
    let number = fn.clock.number in
    let next = begun_next number fn.clock.next c.args.moment in
    let test = c.loop-tick-test.false in
    let end = c.loop-tick.auto.tick-end in
    let all : c.loop-tick.tick ≡ ticks_due next c.args.moment = let d = i.due in omega arith in
    subst (λ m. GoesOn (ticks_from first number m) (state_in style lines fn) (state_in style lines now) (text_of c.args.gathered.now) (text_of c.loop-tick.gathered)) all (i.ok first e)
