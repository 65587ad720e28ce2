use Rattle.std.proofs.Common.{◌≡◌, ◌++◌, map, take}
use Rattle.std.specs.List.{filter_map}
use Rattle.dsdl_parse.specs.declared.expr.ExprNode.{out-ExprNode}
use Rattle.dsdl_parse.specs.LeavesOf.{reference_in}
use Rattle.dsdl_links.proofs.reference.add_value.Given as goal

-- the references among the leaves so far are added
abbrev pub invariant-loop-leaf : goal.invariant-loop-leaf
invariant-loop-leaf l =
    map (λ r. r.now) l.found.items ≡ map (λ r. r.now) l.initial.found.items ++ filter_map (λ leaf. reference_in (out-ExprNode leaf)) (map (λ x. x.now) (take l.leaf-index l.leaf-items))
