use Rattle.std.proofs.Common.{◌≡◌, take}
use Rattle.const_expr.specs.Constants.{naturals}
use Rattle.const_expr.proofs.whole.naturals.Given as goal

-- the constants so far are those of the lengths so far
abbrev pub invariant-loop-length : goal.invariant-loop-length
invariant-loop-length l = l.constants ≡ naturals (take l.length-index l.lengths)
