use Rattle.std.proofs.Common.{take, []}
use Rattle.bit_length.specs.Lengths.{Pads}
use Rattle.bit_length.specs.Runs.{Adds, InSome}
use Rattle.bit_length.proofs.sums.pads.Given as goal

abbrev pub invariant-loop-run : goal.invariant-loop-run
invariant-loop-run l =
    Adds l.step [] l.pads.items (Pads (InSome l.step (take l.run-index l.runs)) l.to)
