use Rattle.std.proofs.Common.{◌≡◌, ◌^◌}
use Rattle.const_expr.proofs.literal.ten_to.Given as goal

-- one factor a turn
abbrev pub invariant-loop : goal.invariant-loop
invariant-loop l = l.power ≡ 10 ^ l.counter
