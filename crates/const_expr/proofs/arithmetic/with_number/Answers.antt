use Rattle.std.proofs.Common.{◌≡◌, sym, ap, ◌∙◌, subst}
use Rattle.const_expr.specs.declared.arithmetic.Half.TheVariants.{Right}
use Rattle.const_expr.specs.declared.constant.Const.{out-Const}
use Rattle.const_expr.specs.declared.constant.Const.TheOpen as o
use Rattle.const_expr.specs.Binary.{on_members, on_numbers}
use Rattle.const_expr.specs.Refusals.{Gives}
use Rattle.const_expr.specs.Steps.{with_operand}
use Rattle.const_expr.proofs.Layers.{set_layer}
use Rattle.const_expr.proofs.arithmetic.with_number.Goals as goal

pub returns-in-Set-clause-value : goal.returns-in-Set-clause-value
returns-in-Set-clause-value c =
    let r = c.on_members.result in
    let y = c.args.y in
    let left : out-Const c.args.left ≡ o.Set c.in-Set.xs = ap out-Const c.in-Set.is ∙ set_layer c.in-Set.xs in
    subst (λ l. Gives r (on_numbers c.args.sign l (o.Number y))) (sym left)
    (subst (λ xs. Gives r (on_members (λ x. with_operand c.args.sign (Right y) x) xs)) c.as_slice.ensures c.on_members.ensures.value)
