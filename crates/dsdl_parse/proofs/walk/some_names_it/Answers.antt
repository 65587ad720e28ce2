use Rattle.std.proofs.Common.{◌≡◌, ◌++◌, ◌∷◌, [], ◌||◌, rules, List, Bor, map, ap, sym, ◌∙◌, subst, ◌<◌}
use Rattle.std.proofs.lemmas.List.{map-append}
use Rattle.dsdl_parse.specs.declared.expr.Expr.{Expr}
use Rattle.dsdl_parse.proofs.LeafWalk as walk
use Rattle.dsdl_parse.proofs.LeafWalk.{stack_names, count_all}
use Rattle.dsdl_parse.proofs.walk.some_names_it.Goals as goal

abbrev exprs : List (Bor Expr) → List Expr
exprs xs = map (λ x. x.now) xs

popped : (all rest : List (Bor Expr)) (x : Bor Expr) → all ≡ rest ++ x ∷ [] → exprs all ≡ exprs rest ++ x.now ∷ []
popped all rest x h = ap exprs h ∙ map-append (λ (x : Bor Expr). x.now) rest (x ∷ [])

pub loop-next-init : goal.loop-next-init
loop-next-init c =
    let first : c.push.new.self.items ≡ c.args.expr ∷ [] = c.in_ok-push.ensures.items ∙ ap (λ l. l ++ c.args.expr ∷ []) c.new-waiting.ensures.items in
    ap (λ l. stack_names c.args.name.now (exprs l)) first ∙ walk.names_start c.args.name.now c.args.expr.now

pub loop-next-preserved-then-not-is_leaf : goal.loop-next-preserved-then-not-is_leaf
loop-next-preserved-then-not-is_leaf c =
    let stack = popped c.loop-next.waiting.items c.pop.new.self.items c.in-Some.next c.in-Some.ensures.items in
    ap (stack_names c.args.name.now) c.in_ok-stack_parts.ensures
    ∙ sym (walk.names_parts c.args.name.now (exprs c.pop.new.self.items) c.in-Some.next.now (sym c.is_leaf.ensures ∙ c.if-not-is_leaf.true))
    ∙ ap (stack_names c.args.name.now) (sym stack) ∙ c.loop-next.invariant

pub loop-next-smaller-then-not-is_leaf : goal.loop-next-smaller-then-not-is_leaf
loop-next-smaller-then-not-is_leaf c =
    let stack = popped c.loop-next.waiting.items c.pop.new.self.items c.in-Some.next c.in-Some.ensures.items in
    subst (λ s. count_all (exprs c.stack_parts.new.stack.items) < count_all s) (sym stack)
    (subst (λ s. count_all s < count_all (exprs c.pop.new.self.items ++ c.in-Some.next.now ∷ [])) (sym c.in_ok-stack_parts.ensures) (walk.fewer_parts (exprs c.pop.new.self.items) c.in-Some.next.now))

pub returns-then-is_name : goal.returns-then-is_name
returns-then-is_name c =
    let stack = popped c.loop-next.waiting.items c.pop.new.self.items c.in-Some.next c.in-Some.ensures.items in
    let rest = stack_names c.args.name.now (exprs c.pop.new.self.items) in
    ap (λ b. b || rest) (sym c.if-is_name.true ∙ c.is_name.ensures)
    ∙ sym (walk.names_leaf c.args.name.now (exprs c.pop.new.self.items) c.in-Some.next.now (sym c.is_leaf.ensures ∙ c.if-not-is_leaf.false))
    ∙ ap (stack_names c.args.name.now) (sym stack) ∙ c.loop-next.invariant

pub loop-next-preserved : goal.loop-next-preserved
loop-next-preserved c =
    let stack = popped c.loop-next.waiting.items c.pop.new.self.items c.in-Some.next c.in-Some.ensures.items in
    let rest = stack_names c.args.name.now (exprs c.pop.new.self.items) in
    ap (λ b. b || rest) (sym c.if-is_name.false ∙ c.is_name.ensures)
    ∙ sym (walk.names_leaf c.args.name.now (exprs c.pop.new.self.items) c.in-Some.next.now (sym c.is_leaf.ensures ∙ c.if-not-is_leaf.false))
    ∙ ap (stack_names c.args.name.now) (sym stack) ∙ c.loop-next.invariant

pub loop-next-smaller : goal.loop-next-smaller
loop-next-smaller c =
    let stack = popped c.loop-next.waiting.items c.pop.new.self.items c.in-Some.next c.in-Some.ensures.items in
    subst (λ s. count_all (exprs c.pop.new.self.items) < count_all s) (sym stack) (walk.fewer_leaf (exprs c.pop.new.self.items) c.in-Some.next.now)

pub returns : goal.returns
returns c =
    let none : c.loop-next.waiting.items ≡ [] = search rules in
    sym (walk.names_end c.args.name.now) ∙ ap (λ l. stack_names c.args.name.now (exprs l)) (sym none) ∙ c.loop-next.invariant
