use Rattle.bit_length.proofs.ReachLemmas.{IsForgetting}
use Rattle.bit_length.proofs.reaches.forget_round.Given as goal

abbrev pub invariant-loop : goal.invariant-loop
invariant-loop l = IsForgetting l.stride l.from l.counter l.at l.initial.reaches l.reaches
