use Rattle.std.proofs.Common.{◌≡◌, sym, ap, ◌∙◌, subst}
use Rattle.std.proofs.lemmas.Int.{to_z-of_z}
use Rattle.std.specs.Int.{w128}
use Rattle.const_expr.specs.declared.constant.Const.{out-Const}
use Rattle.const_expr.specs.declared.constant.Const.TheOpen as o
use Rattle.const_expr.specs.declared.constant.Const.TheVariants as k
use Rattle.const_expr.specs.Binary.{on_numbers}
use Rattle.const_expr.specs.Constants.{IsAscending}
use Rattle.const_expr.specs.Operands.{IsOperand, constant_of}
use Rattle.const_expr.specs.Shifts.{IsMoved, wholes}
use Rattle.const_expr.proofs.Keeps.{set_ascends}
use Rattle.const_expr.proofs.Layers.{set_layer}
use Rattle.const_expr.proofs.ShiftLemmas.{shift_value, shift_keeps}
use Rattle.const_expr.proofs.arithmetic.shifted.Goals as goal

pub returns-in-Ok-clause-value : goal.returns-in-Ok-clause-value
returns-in-Ok-clause-value c =
    let zs = c.in-Shifted.numbers in
    let same : k.Set (wholes zs) ≡ constant_of c.args.left = ap constant_of (sym c.in-Shifted.is) ∙ c.in_ok-numbers.ensures.value in
    let asc : IsAscending (wholes zs) = set_ascends (wholes zs) (subst IsOperand c.in-Shifted.is c.in_ok-numbers.ensures.kept) in
    shift_value c.args.sign c.args.y c.args.k zs c.in-Ok.moved c.requires.shift (subst (λ m. IsMoved zs m c.in-Ok.moved) (to_z-of_z w128 c.args.k c.ranges.k) c.in-Ok.ensures) asc
    ∙ ap (λ l. on_numbers c.args.sign l (o.Number c.args.y)) (sym (set_layer (wholes zs)) ∙ ap out-Const same)

pub returns-in-Ok-clause-kept : goal.returns-in-Ok-clause-kept
returns-in-Ok-clause-kept c =
    let zs = c.in-Shifted.numbers in
    let asc : IsAscending (wholes zs) = set_ascends (wholes zs) (subst IsOperand c.in-Shifted.is c.in_ok-numbers.ensures.kept) in
    shift_keeps c.args.sign c.args.y c.args.k zs c.in-Ok.moved c.requires.shift (subst (λ m. IsMoved zs m c.in-Ok.moved) (to_z-of_z w128 c.args.k c.ranges.k) c.in-Ok.ensures) asc
