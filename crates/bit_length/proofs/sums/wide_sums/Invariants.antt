use Rattle.std.proofs.Common.{◌*◌, take, []}
use Rattle.bit_length.specs.Lengths.{Sums}
use Rattle.bit_length.specs.Runs.{Adds, InRun, InSome}
use Rattle.bit_length.proofs.sums.wide_sums.Given as goal

abbrev pub invariant-loop-run : goal.invariant-loop-run
invariant-loop-run l =
    Adds l.step [] l.sums.items (Sums (InRun l.step l.one) (InSome (l.step * l.many) (take l.run-index l.runs)))
