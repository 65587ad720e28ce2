use Rattle.std.proofs.Common.{◌≡◌, ◌-◌, ◌<◌, length, get_or, Less, sym, ap, ◌∙◌, arith, rules}
use Rattle.std.proofs.lemmas.List.{get_or_default}
use Rattle.const_expr.specs.Constants.{const_order}
use Rattle.const_expr.proofs.SetLemmas.{one_more_ascends}
use Rattle.const_expr.proofs.gathered.is_ascending.Goals as goal

pub loop-place-preserved : goal.loop-place-preserved
loop-place-preserved c =
    let xs = c.args.constants.now in
    let n = c.loop-place.place in
    let x = c.index-constants-place.result in
    let y = c.index-constants-place-in-loop-place.result in
    let less : c.order.result ≡ Less = search rules in
    let within : n < length xs = omega arith in
    one_more_ascends xs n c.loop-place.invariant
    (λ d. ap (λ u. const_order u (get_or xs n d)) (get_or_default xs (n - 1) d x (omega arith) ∙ sym c.index-constants-place.is)
    ∙ ap (const_order x) (get_or_default xs n d y within ∙ sym c.index-constants-place-in-loop-place.is)
    ∙ sym c.order.ensures ∙ less)
