use Rattle.std.proofs.Common.{◌≡◌, ◌/◌, ◌<◌, pos, Ok, ap, sym, ◌∙◌, subst, to_z, arith, rules}
use Rattle.std.proofs.lemmas.Int.{to_z-of_z}
use Rattle.std.specs.Int.{w128}
use mir.Val.{SFits}
use Rattle.cy_ratio.specs.Fraction.{IsReduced, gcd, fraction_of}
use Rattle.cy_ratio.proofs.PartLemmas.{reduced, gcd-one}
use Rattle.cy_ratio.proofs.WholeLemmas.{whole, whole_fraction}
use Rattle.cy_ratio.proofs.ratio.Ratio.new.Goals as goal

pub returns-then-den-eq1 : goal.returns-then-den-eq1
returns-then-den-eq1 c =
    let one : c.args.den ≡ pos 1 = sym (to_z-of_z w128 c.args.den c.ranges.den) ∙ ap (to_z w128) c.if-den-eq1.true in
    ap (λ n. Ok (whole n)) (to_z-of_z w128 c.args.num c.ranges.num)
    ∙ sym (whole_fraction c.args.num c.ranges.num)
    ∙ ap (fraction_of c.args.num) (sym one)

pub invariant_of-result : goal.invariant_of-result
invariant_of-result c = (omega arith, omega arith, gcd-one _)

pub invariant_of-result-2 : goal.invariant_of-result-2
invariant_of-result-2 c =
    let above : SFits w128 c.in_ok-above.above = search rules in
    let positive : 0 < c.unsigned_abs-size.result = search rules in
    let same : c.unsigned_abs-2.result ≡ c.unsigned_abs.result = c.unsigned_abs-2.ensures.value ∙ sym c.unsigned_abs.ensures.value in
    let q : c.unsigned_abs-2.result / c.gcd-g.result ≡ c.unsigned_abs.result / gcd c.unsigned_abs.result c.unsigned_abs-size.result = cc c.gcd-g.ensures.value in
    let k = ap (λ n. c.unsigned_abs-size.result / n) c.gcd-g.ensures.value in
    subst (λ z. IsReduced (record { num = z; den = c.in_ok-below.below })) (sym (to_z-of_z w128 c.in_ok-above.above above))
    (reduced c.unsigned_abs.result c.unsigned_abs-size.result _ _ _ c.in_ok-above.above c.in_ok-below.below c.signed.result c.denominator.result positive q k c.signed.ensures c.in_ok-above.was c.denominator.ensures c.in_ok-below.was)
