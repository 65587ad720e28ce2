use Rattle.bit_length.specs.Lengths.{Has, Same}
use Rattle.bit_length.specs.Moved.{Moved}
use Rattle.bit_length.specs.Runs.{InSome}
use Rattle.bit_length.proofs.SetLemmas.{front}
use Rattle.bit_length.proofs.listed.members_of.Given as goal

abbrev pub invariant-loop-run : goal.invariant-loop-run
invariant-loop-run l =
    Same (Has l.members.items) (Moved l.by (InSome l.step (front l.others l.last l.run-index)))
