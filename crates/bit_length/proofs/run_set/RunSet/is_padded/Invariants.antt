use Rattle.std.proofs.Common.{◌≡◌, ℕ, ◌%◌, ◌<◌, get_or}
use Rattle.bit_length.proofs.SetLemmas.{no_run}
use Rattle.bit_length.proofs.run_set.RunSet.is_padded.Given as goal

abbrev pub invariant-loop-run : goal.invariant-loop-run
invariant-loop-run l =
    (k : ℕ) → k < l.run-index → (get_or l.run-items k no_run).residue % l.to ≡ 0
