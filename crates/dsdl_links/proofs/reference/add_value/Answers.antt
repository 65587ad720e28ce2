use Rattle.std.proofs.Common.{◌∷◌, ◌++◌, [], List, Bor, map, take, ap, sym, ◌∙◌, append_assoc}
use Rattle.std.specs.List.{filter_map}
use Rattle.dsdl_parse.specs.declared.expr.Reference.{Reference}
use Rattle.dsdl_parse.specs.declared.expr.ExprNode.{ExprNode, out-ExprNode}
use Rattle.dsdl_parse.specs.LeavesOf.{reference_in}
use Rattle.std.proofs.lemmas.List.Elements.{filter_map-append}
use Rattle.dsdl_links.proofs.Naming.{borrowed_more}
use Rattle.dsdl_links.proofs.reference.add_value.Goals as goal

abbrev refs : List (Bor Reference) → List Reference
refs xs = map (λ r. r.now) xs

abbrev refs_in : List ExprNode → List Reference
refs_in leaves = filter_map (λ leaf. reference_in (out-ExprNode leaf)) leaves

pub loop-leaf-preserved : goal.loop-leaf-preserved
loop-leaf-preserved c =
    let items = c.deref-leaf-items.result.now in
    let i = c.loop-leaf.leaf-index in
    let front = map (λ (x : Bor ExprNode). x.now) (take i items) in
    let next = c.leaf-item.result.now ∷ [] in
    let all = refs c.args.found.now.items in
    c.in_ok-add_leaf.ensures ∙ ap (λ l. l ++ refs_in next) c.loop-leaf.invariant ∙ append_assoc all (refs_in front) (refs_in next)
    ∙ ap (λ l. all ++ l) (sym (filter_map-append (λ leaf. reference_in (out-ExprNode leaf)) front next))
    ∙ ap (λ l. all ++ refs_in l) (sym (borrowed_more items i c.leaf-item.result c.loop-leaf-test.true c.leaf-item.is))
