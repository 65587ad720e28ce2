use Rattle.std.proofs.Common.{◌≡◌, ◌+◌, ◌≤◌, length, drop}
use Rattle.const_expr.specs.Literal.{digits}
use Rattle.const_expr.proofs.literal.count_digits.Given as goal

-- the digits so far and those that are left are all
abbrev pub invariant-loop-b : goal.invariant-loop-b
invariant-loop-b l = record {
  whole : l.count + length (digits (drop l.b-index l.text)) ≡ length (digits l.text);
  bound : l.count ≤ l.b-index;
}
