use Rattle.bit_length.proofs.ReachLemmas.{IsRounds}
use Rattle.bit_length.proofs.reaches.mark_reached.Given as goal

abbrev pub invariant-loop-from : goal.invariant-loop-from
invariant-loop-from l = IsRounds l.step l.from l.initial.reaches l.reaches l.marks
