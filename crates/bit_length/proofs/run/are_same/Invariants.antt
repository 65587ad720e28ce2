use Rattle.std.proofs.Common.{◌≡◌, take}
use Rattle.bit_length.proofs.run.are_same.Given as goal

abbrev pub invariant-loop-at : goal.invariant-loop-at
invariant-loop-at l = take l.at l.runs ≡ take l.at l.others
