use Rattle.std.proofs.Common.{◌≡◌, ◌<◌, ℕ, get_or, false}
use Rattle.const_expr.specs.Literal.{is_exponent_sign}
use Rattle.const_expr.proofs.literal.exponent_sign_in.Given as goal

-- no byte so far is an `e` or `E`
abbrev pub invariant-loop-i : goal.invariant-loop-i
invariant-loop-i l = (k : ℕ) → k < l.i → is_exponent_sign (get_or l.text k 0) ≡ false
