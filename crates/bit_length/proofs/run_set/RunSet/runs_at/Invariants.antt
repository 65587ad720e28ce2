use Rattle.std.proofs.Common.{take, []}
use Rattle.bit_length.specs.Runs.{Adds, InSome}
use Rattle.bit_length.proofs.run_set.RunSet.runs_at.Given as goal

abbrev pub invariant-loop-run : goal.invariant-loop-run
invariant-loop-run l =
    Adds l.step [] l.parts.items (InSome l.self-inside.step (take l.run-index l.self-inside.others.items))
