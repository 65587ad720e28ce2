use Rattle.std.proofs.Common.{◌≡◌, ◌++◌, ◌∷◌, [], ℤ, pos, ◌+ℤ◌, to_z, of_z, FitsSigned, get_or, arith, rules, sym, ap, ◌∙◌}
use Rattle.std.proofs.lemmas.Int.{ints}
use Rattle.std.specs.Int.{w128}
use Rattle.const_expr.specs.declared.constant.Const.TheVariants as k
use Rattle.const_expr.specs.Constants.{whole}
use Rattle.const_expr.proofs.ShiftLemmas.{sum_fits, sum_more}
use Rattle.const_expr.proofs.shifted.sums.Goals as goal

pub overflow_add-n : goal.overflow_add-n
overflow_add-n c =
    let n = get_or c.args.numbers.now c.loop-n.n-index (pos 0) in
    let k : FitsSigned w128 c.args.k = c.ranges.k in
    let own : FitsSigned w128 n = search rules in
    let fits : FitsSigned w128 (n +ℤ c.args.k) = sum_fits c.args.numbers.now c.args.k (pos 0) c.loop-n.n-index c.requires c.loop-n-test.true in
    omega (arith, ints)

pub loop-n-preserved : goal.loop-n-preserved
loop-n-preserved c =
    let n = get_or c.args.numbers.now c.loop-n.n-index (pos 0) in
    let shift : ℤ = to_z w128 (of_z w128 c.args.k) in
    let range : FitsSigned w128 c.args.k = c.ranges.k in
    let own : FitsSigned w128 n = search rules in
    let fits : FitsSigned w128 (n +ℤ c.args.k) = sum_fits c.args.numbers.now c.args.k (pos 0) c.loop-n.n-index c.requires c.loop-n-test.true in
    let same : to_z w128 (of_z w128 (to_z w128 (of_z w128 n) +ℤ shift)) ≡ n +ℤ shift = omega (arith, ints) in
    c.in_ok-push.ensures.ok
    ∙ ap (λ x. c.loop-n.members ++ k.Number x ∷ []) (c.whole.ensures ∙ ap whole same)
    ∙ ap (λ l. l ++ k.Number (whole (n +ℤ shift)) ∷ []) c.loop-n.invariant
    ∙ sym (sum_more c.args.numbers.now shift c.loop-n.n-index (pos 0) c.loop-n-test.true)
