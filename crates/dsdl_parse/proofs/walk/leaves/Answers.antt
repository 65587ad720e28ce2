use Rattle.std.proofs.Common.{◌≡◌, ◌++◌, ◌∷◌, [], List, Bor, map, ap, sym, ◌∙◌, subst, ◌<◌}
use Rattle.std.proofs.lemmas.List.{map-append}
use Rattle.dsdl_parse.specs.declared.expr.Expr.{Expr, out-Expr}
use Rattle.dsdl_parse.specs.declared.expr.ExprNode.{ExprNode}
use Rattle.dsdl_parse.proofs.LeafWalk as walk
use Rattle.dsdl_parse.proofs.LeafWalk.{Walks, count_all}
use Rattle.dsdl_parse.proofs.walk.leaves.Goals as goal

abbrev nodes : List (Bor ExprNode) → List ExprNode
nodes xs = map (λ x. x.now) xs

abbrev exprs : List (Bor Expr) → List Expr
exprs xs = map (λ x. x.now) xs

popped : (all rest : List (Bor Expr)) (x : Bor Expr) → all ≡ rest ++ x ∷ [] → exprs all ≡ exprs rest ++ x.now ∷ []
popped all rest x h = ap exprs h ∙ map-append (λ (x : Bor Expr). x.now) rest (x ∷ [])

pushed : (all rest : List (Bor ExprNode)) (x : Bor ExprNode) → all ≡ rest ++ x ∷ [] → nodes all ≡ nodes rest ++ x.now ∷ []
pushed all rest x h = ap nodes h ∙ map-append (λ (x : Bor ExprNode). x.now) rest (x ∷ [])

pub loop-next-preserved-then-is_leaf : goal.loop-next-preserved-then-is_leaf
loop-next-preserved-then-is_leaf c =
    let taken : nodes c.push-then-is_leaf.new.self.items ≡ nodes c.loop-next.leaves.items ++ (out-Expr c.in-Some.next.now).node ∷ [] = pushed c.push-then-is_leaf.new.self.items c.loop-next.leaves.items _ c.in_ok-push-2.ensures.items in
    let stack = popped c.loop-next.waiting.items c.pop.new.self.items c.in-Some.next c.in-Some.ensures.items in
    subst (λ t. Walks c.args.expr.now t (exprs c.pop.new.self.items)) (sym taken)
    (walk.walk_leaf c.args.expr.now c.in-Some.next.now (nodes c.loop-next.leaves.items) (exprs c.pop.new.self.items) (subst (Walks c.args.expr.now (nodes c.loop-next.leaves.items)) stack c.loop-next.invariant)
    (sym c.is_leaf.ensures ∙ c.if-is_leaf.true))

pub loop-next-smaller-then-is_leaf : goal.loop-next-smaller-then-is_leaf
loop-next-smaller-then-is_leaf c =
    let stack = popped c.loop-next.waiting.items c.pop.new.self.items c.in-Some.next c.in-Some.ensures.items in
    subst (λ s. count_all (exprs c.pop.new.self.items) < count_all s) (sym stack) (walk.fewer_leaf (exprs c.pop.new.self.items) c.in-Some.next.now)

pub loop-next-preserved : goal.loop-next-preserved
loop-next-preserved c =
    let stack = popped c.loop-next.waiting.items c.pop.new.self.items c.in-Some.next c.in-Some.ensures.items in
    subst (Walks c.args.expr.now (nodes c.loop-next.leaves.items)) (sym c.in_ok-stack_parts.ensures)
    (walk.walk_parts c.args.expr.now c.in-Some.next.now (nodes c.loop-next.leaves.items) (exprs c.pop.new.self.items) (subst (Walks c.args.expr.now (nodes c.loop-next.leaves.items)) stack c.loop-next.invariant)
    (sym c.is_leaf.ensures ∙ c.if-is_leaf.false))

pub loop-next-smaller : goal.loop-next-smaller
loop-next-smaller c =
    let stack = popped c.loop-next.waiting.items c.pop.new.self.items c.in-Some.next c.in-Some.ensures.items in
    subst (λ s. count_all (exprs c.stack_parts.new.stack.items) < count_all s) (sym stack)
    (subst (λ s. count_all s < count_all (exprs c.pop.new.self.items ++ c.in-Some.next.now ∷ [])) (sym c.in_ok-stack_parts.ensures) (walk.fewer_parts (exprs c.pop.new.self.items) c.in-Some.next.now))
