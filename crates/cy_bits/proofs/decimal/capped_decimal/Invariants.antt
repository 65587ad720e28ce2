use Rattle.std.proofs.Common.{◌≡◌, ◌≤◌, drop, min}
use Rattle.std.specs.Prelude.{option_map}
use Rattle.cy_bits.specs.Numbers.{decimal_from}
use Rattle.cy_bits.proofs.decimal.capped_decimal.Given as goal

-- the digits that are left, behind the number so far, give what all digits give
abbrev pub invariant-loop-digit : goal.invariant-loop-digit
invariant-loop-digit l = record {
  value : option_map (λ n. min l.most n) (decimal_from 0 l.digits) ≡ option_map (λ n. min l.most n) (decimal_from l.number (drop l.digit-index l.digits));
  most : l.number ≤ l.most;
}
