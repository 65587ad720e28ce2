use Rattle.std.proofs.Common.{ℕ, ◌≡◌, ◌≤◌, ◌<◌, length, take, get_or, All}
use Rattle.bit_length.specs.declared.run.Run.{Run}
use Rattle.bit_length.specs.Runs.{IsRun, IsAtMost, MergesInto}
use Rattle.bit_length.proofs.merge.merge_sorted.Given as goal

abbrev pub invariant-loop-at : goal.invariant-loop-at
invariant-loop-at l = record {
  within : l.kept < l.at;
  len : length l.runs ≡ length l.initial.runs;
  rest : (k : ℕ) (d : Run) → l.at ≤ k → get_or l.runs k d ≡ get_or l.initial.runs k d;
  merges : (step : ℕ) → All (IsRun step) l.initial.runs → MergesInto step (take l.at l.initial.runs) (take l.kept l.runs) l.last;
  order : (k : ℕ) (d : Run) → l.at ≤ k → k < length l.initial.runs → IsAtMost l.last (get_or l.initial.runs k d);
}
