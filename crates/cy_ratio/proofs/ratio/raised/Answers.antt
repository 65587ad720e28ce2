use Rattle.std.proofs.Common.{◌≡◌, ◌+◌, ◌*◌, ◌*ℤ◌, Ok, Err, ap, sym, ◌∙◌, subst, arith, rules, to_z, of_z}
use Rattle.std.proofs.lemmas.Int.{to_z-of_z}
use Rattle.std.proofs.lemmas.Result.{err_from_is_err_and}
use Rattle.std.specs.Int.{w128}
use mir.Val.{SFits}
use Rattle.cy_ratio.specs.Fraction.{named}
use Rattle.cy_ratio.proofs.PartLemmas.{kept}
use Rattle.cy_ratio.proofs.PowerLemmas.{Raises, raises_none, raises_more, raises_all, num_refused, den_refused, power_reduced}
use Rattle.cy_ratio.proofs.ratio.raised.Goals as goal

pub loop-init : goal.loop-init
loop-init c = raises_none _ c.args.b

pub loop-preserved : goal.loop-preserved
loop-preserved c =
    let num : SFits w128 c.in_ok-num.num = search rules in
    let was_num : c.times.result ≡ Ok c.in_ok-num.num = c.in_ok-num.was in
    let was_den : c.denominators.result ≡ Ok c.in_ok-den.den = c.in_ok-den.was in
    subst (λ z. Raises (to_z w128 (of_z w128 c.args.a)) c.args.b (c.loop.counter + 1) z c.in_ok-den.den) (sym (to_z-of_z w128 c.in_ok-num.num num))
    (raises_more (to_z w128 (of_z w128 c.args.a)) c.args.b c.loop.counter (to_z w128 c.loop.num-bits) c.in_ok-num.num c.loop.den c.in_ok-den.den c.loop.invariant (sym c.times.ensures ∙ was_num) (sym c.denominators.ensures ∙ was_den))

pub returns-in_err-num : goal.returns-in_err-num
returns-in_err-num c =
    let p = err_from_is_err_and c.from_residual.result c.from_residual.ensures.1 in
    let a = to_z-of_z w128 c.args.a c.ranges.a in
    let was : c.times.result ≡ Err c.in_err-num.field-0.0 = c.in_err-num.was in
    let refused : named (to_z w128 c.loop.num-bits *ℤ c.args.a) ≡ Err c.in_err-num.field-0.0 = ap (λ z. named (to_z w128 c.loop.num-bits *ℤ z)) (sym a) ∙ sym c.times.ensures ∙ was in
    let stands = subst (λ z. Raises z c.args.b c.loop.counter (to_z w128 c.loop.num-bits) c.loop.den) a c.loop.invariant in
    rw (p.1, p.2) (sym (num_refused c.args.a c.args.b c.loop.counter c.args.e (to_z w128 c.loop.num-bits) c.loop.den c.in_err-num.field-0.0 _ stands (omega arith) refused))

pub returns-in_err-den : goal.returns-in_err-den
returns-in_err-den c =
    let p = err_from_is_err_and c.from_residual-in_err-den.result c.from_residual-in_err-den.ensures.1 in
    let a = to_z-of_z w128 c.args.a c.ranges.a in
    let was : c.denominators.result ≡ Err c.in_err-den.field-0.0 = c.in_err-den.was in
    let refused : kept (c.loop.den * c.args.b) ≡ Err c.in_err-den.field-0.0 = sym c.denominators.ensures ∙ was in
    let stands = subst (λ z. Raises z c.args.b c.loop.counter (to_z w128 c.loop.num-bits) c.loop.den) a c.loop.invariant in
    rw (p.1, p.2) (sym (den_refused c.args.a c.args.b c.loop.counter c.args.e (to_z w128 c.loop.num-bits) c.loop.den c.in_err-den.field-0.0 _ stands (omega arith) refused))

pub invariant_of-result : goal.invariant_of-result
invariant_of-result c =
    let a = to_z-of_z w128 c.args.a c.ranges.a in
    let stands = subst (λ z. Raises z c.args.b c.loop.counter (to_z w128 c.loop.num-bits) c.loop.den) a c.loop.invariant in
    power_reduced c.args.a c.args.b c.loop.counter (to_z w128 c.loop.num-bits) c.loop.den c.requires stands.num_is stands.den_is stands.small

pub returns : goal.returns
returns c =
    let a = to_z-of_z w128 c.args.a c.ranges.a in
    let stands = subst (λ z. Raises z c.args.b c.loop.counter (to_z w128 c.loop.num-bits) c.loop.den) a c.loop.invariant in
    raises_all c.args.a c.args.b c.loop.counter c.args.e (to_z w128 c.loop.num-bits) c.loop.den stands (omega arith)
