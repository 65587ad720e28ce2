use Rattle.std.proofs.Common.{ℕ, ◌≡◌, ◌+◌, ◌++◌, ◌∷◌, []}
use Rattle.bit_length.specs.declared.run.Run.{Run}
use Rattle.bit_length.specs.Runs.{AreRuns}
use Rattle.bit_length.proofs.CountLemmas.{counted}
use Rattle.bit_length.proofs.SetLemmas.{front}
use Rattle.bit_length.proofs.run_set.RunSet.count.Given as goal

abbrev pub invariant-loop-run : goal.invariant-loop-run
invariant-loop-run l =
    (s : ℕ) (last : Run) → AreRuns s (l.run-items ++ last ∷ []) → l.initial.count + last.first ≡ last.last + 1 → l.count ≡ counted s (front l.run-items last l.run-index)
