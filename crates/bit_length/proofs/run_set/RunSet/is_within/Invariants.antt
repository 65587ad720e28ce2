use Rattle.bit_length.specs.Lengths.{Has, IsWithin}
use Rattle.bit_length.specs.Moved.{Moved}
use Rattle.bit_length.specs.Runs.{InSome}
use Rattle.bit_length.proofs.SetLemmas.{front}
use Rattle.bit_length.proofs.run_set.RunSet.is_within.Given as goal

abbrev pub invariant-loop-run : goal.invariant-loop-run
invariant-loop-run l =
    IsWithin (Moved l.by (InSome l.self-inside.step (front l.self-inside.others.items l.self-inside.last l.run-index))) (Moved l.at (Has l.o))
