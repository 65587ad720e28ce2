use Rattle.std.proofs.Common.{◌-ℤ◌, ap, ◌∙◌, rules, to_z, of_z}
use Rattle.std.proofs.lemmas.Int.{to_z-of_z}
use Rattle.std.specs.Int.{w128}
use mir.Val.{SFits}
use Rattle.cy_ratio.specs.Fraction.{named, difference_of}
use Rattle.cy_ratio.proofs.WholeLemmas.{whole_difference}
use Rattle.cy_ratio.proofs.ratio.Ratio.sub.Goals as goal

pub returns-then-o-eq1 : goal.returns-then-o-eq1
returns-then-o-eq1 c =
    let left : SFits w128 c.self.inside.num = search rules in
    let right : SFits w128 c.o.inside.num = search rules in
    let a = ap (λ z. z -ℤ to_z w128 (of_z w128 c.o.inside.num)) (to_z-of_z w128 c.self.inside.num left) in
    let b = ap (λ z. c.self.inside.num -ℤ z) (to_z-of_z w128 c.o.inside.num right) in
    c.whole.ensures (c.self.inside.num -ℤ c.o.inside.num) (c.minus.ensures ∙ ap named (a ∙ b))
    ∙ whole_difference c.self.inside.num c.o.inside.num c.self.inside.den c.o.inside.den c.if-self-eq1.true c.if-o-eq1.true left right
    ∙ ap (λ x. difference_of x (record { num = c.o.inside.num; den = c.o.inside.den })) c.self.view_is ∙ ap (difference_of c.args.self) c.o.view_is
