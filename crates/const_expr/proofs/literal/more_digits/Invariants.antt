use Rattle.std.proofs.Common.{◌≡◌, ◌<◌, ◌^◌, drop}
use Rattle.std.specs.Str.Parse.{digits_value_after}
use Rattle.const_expr.specs.Literal.{digits}
use Rattle.const_expr.proofs.literal.more_digits.Given as goal

-- the number so far with the digits that are left behind it is the whole
abbrev pub invariant-loop-b : goal.invariant-loop-b
invariant-loop-b l = record {
  whole : digits_value_after l.base l.sum (digits (drop l.b-index l.text)) ≡ digits_value_after l.base l.fn.number (digits l.text);
  bound : l.sum < 2 ^ 128;
}
