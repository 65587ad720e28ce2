use Rattle.std.proofs.Common.{◌≡◌, ◌<◌, ℕ, get_or, false}
use Rattle.const_expr.specs.Literal.{is_point}
use Rattle.const_expr.proofs.literal.point_in.Given as goal

-- no byte so far is a point
abbrev pub invariant-loop-i : goal.invariant-loop-i
invariant-loop-i l = (k : ℕ) → k < l.i → is_point (get_or l.text k 0) ≡ false
