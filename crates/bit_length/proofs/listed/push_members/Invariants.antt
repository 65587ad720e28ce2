use Rattle.bit_length.specs.Lengths.{Has, Same, Joins}
use Rattle.bit_length.proofs.RunLemmas.{InRunBelow}
use Rattle.bit_length.proofs.listed.push_members.Given as goal

abbrev pub invariant-loop-quotient : goal.invariant-loop-quotient
invariant-loop-quotient l =
    Same (Has l.members.items) (Joins (Has l.initial.members.items) (InRunBelow l.step l.quotient l.run))
