use Rattle.bit_length.specs.Lengths.{SomeLeaves}
use Rattle.bit_length.specs.Runs.{InSome}
use Rattle.bit_length.proofs.SetLemmas.{front}
use Rattle.bit_length.proofs.run_set.RunSet.residue.Given as goal

abbrev pub invariant-loop-run : goal.invariant-loop-run
invariant-loop-run l =
    SomeLeaves (InSome l.self-inside.step (front l.self-inside.others.items l.self-inside.last l.run-index)) l.k l.r → ⊥
