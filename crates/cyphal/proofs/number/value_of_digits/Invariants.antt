use Rattle.std.proofs.Common.{◌≡◌, ◌≤◌, ◌<◌, ℕ, drop}
use Rattle.dsdl_names.specs.Words.{decimal_from, at_most}
use Rattle.cyphal.proofs.number.value_of_digits.Given as goal

-- the digits that are left, behind the number so far, give what all digits give
abbrev pub invariant-loop-b : goal.invariant-loop-b
invariant-loop-b l = record {
  value : (most : ℕ) → most < 10_000_000_000 → at_most most (decimal_from 0 l.digits) ≡ at_most most (decimal_from l.n (drop l.b-index l.digits));
  most : l.n ≤ 10_000_000_000;
}
