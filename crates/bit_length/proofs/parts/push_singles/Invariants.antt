use Rattle.bit_length.specs.Runs.{Adds}
use Rattle.bit_length.proofs.RunLemmas.{InRunBelow}
use Rattle.bit_length.proofs.parts.push_singles.Given as goal

abbrev pub invariant-loop-quotient : goal.invariant-loop-quotient
invariant-loop-quotient l =
    Adds l.wide l.initial.parts.items l.parts.items (InRunBelow l.step l.quotient l.run)
