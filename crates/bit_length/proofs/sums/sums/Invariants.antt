use Rattle.std.proofs.Common.{take, []}
use Rattle.bit_length.specs.Lengths.{Sums}
use Rattle.bit_length.specs.Runs.{Adds, InSome}
use Rattle.bit_length.proofs.sums.sums.Given as goal

abbrev pub invariant-loop-run : goal.invariant-loop-run
invariant-loop-run l =
    Adds l.step [] l.sums.items (Sums (InSome l.step (take l.run-index l.a)) (InSome l.step l.b))
