use Rattle.std.proofs.Common.{◌≡◌, ◌++◌, filter}
use Rattle.const_expr.specs.Constants.{has}
use Rattle.const_expr.proofs.bits.common.Given as goal

-- the common members so far with those among the members that are left are all
abbrev pub invariant-loop-member : goal.invariant-loop-member
invariant-loop-member l = l.both ++ filter (λ x. has l.ys x) l.member-iterator ≡ filter (λ x. has l.ys x) l.fn.set.keys
