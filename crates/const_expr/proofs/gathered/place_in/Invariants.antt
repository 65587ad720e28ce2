use Rattle.std.proofs.Common.{◌≤◌, ◌-◌, length}
use Rattle.const_expr.proofs.SetLemmas.{IsBehind, IsBefore}
use Rattle.const_expr.proofs.gathered.place_in.Given as goal

-- the constant stands behind what is before the part that is left, and before what is behind it
abbrev pub invariant-loop-low : goal.invariant-loop-low
invariant-loop-low l = record {
  in_order : l.low ≤ l.high;
  in_bounds : l.high ≤ length l.set;
  behind : IsBehind l.set l.constant l.low;
  before : IsBefore l.set l.constant l.high;
}

abbrev pub decreases-loop-low : goal.decreases-loop-low
decreases-loop-low l = l.high - l.low
