use Rattle.std.proofs.Common.{◌≡◌, map}
use Rattle.dsdl_parse.specs.LeavesOf.{names_it}
use Rattle.dsdl_parse.proofs.LeafWalk.{stack_names, count_all}
use Rattle.dsdl_parse.proofs.walk.some_names_it.Given as goal

-- the expressions on the stack decide
abbrev pub invariant-loop-next : goal.invariant-loop-next
invariant-loop-next l = stack_names l.name (map (λ x. x.now) l.waiting.items) ≡ names_it l.expr l.name

abbrev pub decreases-loop-next : goal.decreases-loop-next
decreases-loop-next l = count_all (map (λ x. x.now) l.waiting.items)
