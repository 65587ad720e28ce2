use Rattle.std.proofs.Common.{◌≡◌, ◌<◌, unsigned_abs, ap, sym, ◌∙◌, subst, rules}
use Rattle.std.proofs.lemmas.Int.{to_z-of_z}
use Rattle.std.specs.Int.{w128}
use mir.Val.{SFits}
use Rattle.cy_ratio.specs.Fraction.{IsReduced, gcd}
use Rattle.cy_ratio.proofs.PartLemmas.{reciprocal_reduced}
use Rattle.cy_ratio.proofs.ratio.reciprocal.Goals as goal

pub invariant_of-result : goal.invariant_of-result
invariant_of-result c =
    let above : SFits w128 c.in_ok-above.above = search rules in
    let positive : 0 < c.unsigned_abs.result = search rules in
    let size : c.unsigned_abs.result ≡ unsigned_abs c.args.c = c.unsigned_abs.ensures.value ∙ ap unsigned_abs (to_z-of_z w128 c.args.c c.ranges.c) in
    subst (λ z. IsReduced (record { num = z; den = c.in_ok-below.below })) (sym (to_z-of_z w128 c.in_ok-above.above above))
    (reciprocal_reduced c.unsigned_abs.result c.args.d _ c.in_ok-above.above c.in_ok-below.below c.signed.result c.denominator.result positive (ap (λ n. gcd n c.args.d) size ∙ c.requires.2) c.signed.ensures c.in_ok-above.was c.denominator.ensures c.in_ok-below.was)
