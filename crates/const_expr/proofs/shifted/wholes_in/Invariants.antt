use Rattle.std.proofs.Common.{◌≡◌, take}
use Rattle.const_expr.specs.Shifts.{Fit, wholes}
use Rattle.const_expr.proofs.shifted.wholes_in.Given as goal

-- the numbers so far are the constants so far
abbrev pub invariant-loop-constant : goal.invariant-loop-constant
invariant-loop-constant l = record {
  same : wholes l.numbers.items ≡ take l.constant-index l.constants;
  fit : Fit l.numbers.items;
}
