use Rattle.std.proofs.Common.{◌≡◌, ◌*◌, ◌/◌, ◌<◌, ◌^◌, pos, ◌*ℤ◌, ◌+ℤ◌, Ok, ap, ◌∙◌, rules, to_z}
use Rattle.std.proofs.lemmas.Int.{to_z-of_z, to_z_pos}
use Rattle.std.specs.Int.{w128}
use mir.Val.{SFits}
use Rattle.cy_ratio.specs.Fraction.{named, fraction_of}
use Rattle.cy_ratio.proofs.PartLemmas.{kept, kept_value, sum_parts}
use Rattle.cy_ratio.proofs.ratio.sum.Goals as goal

pub returns : goal.returns
returns c =
    let fits_left : SFits w128 c.in_ok-left.left = search rules in
    let fits_right : SFits w128 c.in_ok-right.right = search rules in
    let fits_above : SFits w128 c.in_ok-above.above = search rules in
    let a = to_z-of_z w128 c.args.a c.ranges.a in
    let b = to_z-of_z w128 c.args.c c.ranges.c in
    let l = to_z-of_z w128 c.in_ok-left.left fits_left in
    let r = to_z-of_z w128 c.in_ok-right.right fits_right in
    let was_left : c.scaled.result ≡ Ok c.in_ok-left.left = c.in_ok-left.was in
    let was_right : c.scaled-2.result ≡ Ok c.in_ok-right.right = c.in_ok-right.was in
    let was_above : c.plus.result ≡ Ok c.in_ok-above.above = c.in_ok-above.was in
    let was_below : c.denominators.result ≡ Ok c.in_ok-below.below = c.in_ok-below.was in
    let left : named (c.args.a *ℤ pos (c.args.d / c.gcd-g.result)) ≡ Ok c.in_ok-left.left = cc c.scaled.ensures in
    let right : named (c.args.c *ℤ pos (c.args.b / c.gcd-g.result)) ≡ Ok c.in_ok-right.right = cc c.scaled-2.ensures in
    let above : named (c.in_ok-left.left +ℤ c.in_ok-right.right) ≡ Ok c.in_ok-above.above = cc c.plus.ensures in
    let below : kept (c.args.b * (c.args.d / c.gcd-g.result)) ≡ Ok c.in_ok-below.below = cc c.denominators.ensures in
    let value = kept_value (c.args.b * (c.args.d / c.gcd-g.result)) c.in_ok-below.below below in
    let small : c.in_ok-below.below < 2 ^ 127 = rw value.1 value.2 in
    c.new.ensures ∙ ap (λ z. fraction_of z (to_z w128 c.in_ok-below.below)) (to_z-of_z w128 c.in_ok-above.above fits_above) ∙ ap (fraction_of c.in_ok-above.above) (to_z_pos w128 c.in_ok-below.below small)
    ∙ sum_parts c.args.a c.args.c c.args.b c.args.d c.gcd-g.result c.in_ok-left.left c.in_ok-right.right c.in_ok-above.above c.in_ok-below.below c.gcd-g.ensures.value left right above below
