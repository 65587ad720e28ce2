use Rattle.std.proofs.Common.{◌≡◌, ℕ, ◌+◌, ◌-◌, ◌<◌, ◌≤◌, true, Contains}
use Rattle.const_expr.specs.Constants.{has, natural}
use Rattle.const_expr.proofs.compare.lengths_in_set.Given as goal

-- each of the lengths that were passed is a member
abbrev pub invariant-loop-n : goal.invariant-loop-n
invariant-loop-n l = record {
  bound : l.from ≤ l.greatest + 1;
  passed : (n : ℕ) → Contains l.lengths n → n < l.from → has l.ys (natural n) ≡ true;
}

abbrev pub decreases-loop-n : goal.decreases-loop-n
decreases-loop-n l = l.greatest + 1 - l.from
