use Rattle.std.proofs.Common.{◌≡◌, ◌++◌}
use Rattle.const_expr.proofs.gathered.in_a_row.Given as goal

-- the members so far with those that are left are all
abbrev pub invariant-loop-member : goal.invariant-loop-member
invariant-loop-member l = l.members ++ l.member-iterator ≡ l.fn.set.keys
