use Rattle.bit_length.specs.Lengths.{Has, Same, Repeats}
use Rattle.bit_length.proofs.run_set.RunSet.repeat_from.Given as goal

abbrev pub invariant-loop : goal.invariant-loop
invariant-loop l = Same (Has l.sums) (Repeats (Has l.self) l.counter)
