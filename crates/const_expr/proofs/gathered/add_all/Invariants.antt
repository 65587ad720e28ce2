use Rattle.std.proofs.Common.{◌≡◌}
use Rattle.const_expr.specs.Constants.{with_all}
use Rattle.const_expr.proofs.gathered.add_all.Given as goal

-- the set so far with the constants that are left is the whole
abbrev pub invariant-loop-constant : goal.invariant-loop-constant
invariant-loop-constant l = with_all l.set.keys l.constant-iterator.rest.items ≡ with_all l.initial.set.keys l.fn.constants
