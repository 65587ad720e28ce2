use Rattle.bit_length.proofs.ReachLemmas.{IsTurn}
use Rattle.bit_length.proofs.reaches.mark_round.Given as goal

abbrev pub invariant-loop : goal.invariant-loop
invariant-loop l = IsTurn l.reaches l.stride l.from l.counter l.at l.left l.initial.marks l.marks
