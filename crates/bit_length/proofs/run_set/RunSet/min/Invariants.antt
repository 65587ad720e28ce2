use Rattle.bit_length.specs.Lengths.{IsLeast}
use Rattle.bit_length.specs.Runs.{InSome}
use Rattle.bit_length.proofs.SetLemmas.{front}
use Rattle.bit_length.proofs.run_set.RunSet.min.Given as goal

abbrev pub invariant-loop-run : goal.invariant-loop-run
invariant-loop-run l = IsLeast (InSome l.self-inside.step (front l.self-inside.others.items l.self-inside.last l.run-index)) l.least
