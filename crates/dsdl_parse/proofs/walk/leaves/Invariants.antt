use Rattle.std.proofs.Common.{map}
use Rattle.dsdl_parse.proofs.LeafWalk.{Walks, count_all}
use Rattle.dsdl_parse.proofs.walk.leaves.Given as goal

abbrev pub invariant-loop-next : goal.invariant-loop-next
invariant-loop-next l = Walks l.expr (map (λ x. x.now) l.leaves.items) (map (λ x. x.now) l.waiting.items)

abbrev pub decreases-loop-next : goal.decreases-loop-next
decreases-loop-next l = count_all (map (λ x. x.now) l.waiting.items)
