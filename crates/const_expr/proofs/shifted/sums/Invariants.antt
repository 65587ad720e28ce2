use Rattle.std.proofs.Common.{◌≡◌, take}
use Rattle.const_expr.specs.Shifts.{wholes, moved}
use Rattle.const_expr.proofs.shifted.sums.Given as goal

-- the members so far are the sums so far
abbrev pub invariant-loop-n : goal.invariant-loop-n
invariant-loop-n l = l.members ≡ wholes (moved l.k (take l.n-index l.numbers))
