use Rattle.bit_length.proofs.run_set.RunSet.+repeat_within.Given as goal

abbrev pub decreases-repeat_within : goal.decreases-repeat_within
decreases-repeat_within l = l.n
