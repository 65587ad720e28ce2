use Rattle.std.proofs.Common.{◌≡◌, ◌≤◌, ◌+◌, ◌-◌, length, drop}
use Rattle.const_expr.specs.Constants.{is_within}
use Rattle.const_expr.proofs.compare.set_in_set.Given as goal

-- the members that are left have to be among those of the other set that are left
abbrev pub invariant-loop-place : goal.invariant-loop-place
invariant-loop-place l = record {
  place : l.place ≤ length l.xs;
  other : l.other ≤ length l.ys;
  left : is_within l.xs l.ys ≡ is_within (drop l.place l.xs) (drop l.other l.ys);
}

abbrev pub decreases-loop-place : goal.decreases-loop-place
decreases-loop-place l = length l.xs + length l.ys - l.place - l.other
