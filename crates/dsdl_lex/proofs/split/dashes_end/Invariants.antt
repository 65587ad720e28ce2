use Rattle.std.proofs.Common.{◌≡◌, ℕ, ◌≤◌, ◌<◌, ◌-◌, length, get_or}
use Rattle.dsdl_lex.proofs.split.dashes_end.Given as goal

abbrev pub invariant-loop-at : goal.invariant-loop-at
invariant-loop-at l = (l.fn.from ≤ l.at) × (l.at ≤ length l.line) × ((k : ℕ) → l.fn.from ≤ k → k < l.at → get_or l.line k 0 ≡ 45)

abbrev pub decreases-loop-at : goal.decreases-loop-at
decreases-loop-at l = length l.line - l.at
