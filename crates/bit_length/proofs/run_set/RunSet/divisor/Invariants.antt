use Rattle.std.proofs.Common.{◌≡◌, ℕ, ◌%◌, ◌<◌, get_or}
use Rattle.bit_length.proofs.SetLemmas.{no_run}
use Rattle.bit_length.proofs.run_set.RunSet.divisor.Given as goal

abbrev pub invariant-loop-run : goal.invariant-loop-run
invariant-loop-run l = record {
  positive : 0 < l.divisor;
  first : l.initial.divisor % l.divisor ≡ 0;
  each : (k : ℕ) → k < l.run-index → (get_or l.run-items k no_run).residue % l.divisor ≡ 0;
}
