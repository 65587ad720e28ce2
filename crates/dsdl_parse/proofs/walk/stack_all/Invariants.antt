use Rattle.std.proofs.Common.{◌≡◌, ◌++◌, map, reverse, ◌≤◌, length, drop}
use Rattle.dsdl_parse.proofs.walk.stack_all.Given as goal

-- the expressions from i on are on the stack
abbrev pub invariant-loop-i : goal.invariant-loop-i
invariant-loop-i l = record {
  within : l.i ≤ length l.exprs;
  stacked : map (λ x. x.now) l.stack.items ≡ map (λ x. x.now) l.initial.stack.items ++ reverse (drop l.i l.exprs);
}

abbrev pub decreases-loop-i : goal.decreases-loop-i
decreases-loop-i l = l.i
