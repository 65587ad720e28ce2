use Rattle.std.proofs.Common.{◌≡◌, ap, sym, ◌∙◌, subst, IfOk}
use Rattle.std.proofs.lemmas.Int.{to_z-of_z}
use Rattle.std.specs.Int.{w128}
use Rattle.const_expr.specs.Shifts.{Fit, moved, wholes}
use Rattle.const_expr.proofs.shifted.Shifted.into_members.Goals as goal

pub sums-requires : goal.sums-requires
sums-requires c =
    let at = ap (λ k. moved k c.as_slice.result.now) (to_z-of_z w128 c.self.inside.shift c.self.invariant.shift_fits) ∙ ap (moved c.self.inside.shift) c.as_slice.ensures.value in
    subst Fit (sym at) c.self.invariant.fit

pub returns : goal.returns
returns c =
    let at = ap (λ k. moved k c.as_slice.result.now) (to_z-of_z w128 c.self.inside.shift c.self.invariant.shift_fits) ∙ ap (moved c.self.inside.shift) c.as_slice.ensures.value ∙ c.self.view_is in
    subst (λ zs. IfOk c.sums.result (λ members. members ≡ wholes zs)) at c.sums.ensures
