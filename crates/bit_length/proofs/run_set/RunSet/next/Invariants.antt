use Rattle.bit_length.specs.Lengths.{IsNext}
use Rattle.bit_length.specs.Runs.{InSome}
use Rattle.bit_length.proofs.SetLemmas.{front}
use Rattle.bit_length.proofs.run_set.RunSet.next.Given as goal

abbrev pub invariant-loop-run : goal.invariant-loop-run
invariant-loop-run l =
    IsNext (InSome l.self-inside.step (front l.self-inside.others.items l.self-inside.last l.run-index)) l.n l.least
