use Rattle.std.proofs.Common.{◌≡◌, ◌+◌, ◌*◌, ℕ}
use Rattle.line_text.specs.Buffer.{text_of}
use Rattle.node_core.specs.Steps.{ticks_from}
use Rattle.node_run.specs.Goes.{GoesOn, begun_next, state_in, ticks_due}
use Rattle.node_run.specs.Listens.{AsksNone}
use Rattle.node_run.proofs.log.running.Running.ticks.Given as goal

abbrev pub invariant-loop-tick : goal.invariant-loop-tick
invariant-loop-tick g l = let K = g.K.LineSink in let style = g.W.ReportWriter.style in let fn = l.fn.self in let next = begun_next fn.clock.number fn.clock.next l.moment in record {
  asks : AsksNone style K.failed fn l.self;
  latest : l.self.node.now.latest ≡ fn.node.now.latest;
  records : l.self.tally.numbers.records ≡ fn.tally.numbers.records;
  due : l.due ≡ ticks_due next l.moment;
  number : l.self.clock.number ≡ fn.clock.number + l.tick;
  next_is : l.self.clock.next ≡ next + l.tick * 1000000;
  ok : (first : ℕ) → next ≡ first + fn.clock.number * 1000000
      → GoesOn (ticks_from first fn.clock.number l.tick)
      (state_in style K.lines fn)
      (state_in style K.lines l.self)
      (text_of l.fn.gathered) (text_of l.gathered);
}
