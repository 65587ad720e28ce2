use Rattle.std.proofs.Common.{◌≡◌, ◌≤◌, ◌<◌, ℕ, drop}
use Rattle.node_plan.specs.Words.{decimal_from, ranged}
use Rattle.node_plan.proofs.words.value_of_digits.Given as goal

-- the digits that are left, behind the number so far, give what all digits give
abbrev pub invariant-loop-b : goal.invariant-loop-b
invariant-loop-b l = record {
  value : (low high : ℕ) → high < 100_000_000_000_000_000_000 → ranged low high (decimal_from 0 l.digits) ≡ ranged low high (decimal_from l.n (drop l.b-index l.digits));
  most : l.n ≤ 100_000_000_000_000_000_000;
}
