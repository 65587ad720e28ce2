use Rattle.std.proofs.Common.{◌≡◌, FitsSigned, ℤ, ◌+ℤ◌, to_z, of_z, ap, sym, ◌∙◌, subst, rules, arith}
use Rattle.std.proofs.lemmas.Int.{ints, to_z-of_z}
use Rattle.std.specs.Int.{w128}
use Rattle.const_expr.specs.Shifts.{Fit, moved}
use Rattle.const_expr.proofs.ShiftLemmas.{moved_twice}
use Rattle.const_expr.proofs.shifted.Shifted.moved.Goals as goal

pub returns : goal.returns
returns c =
    let k : ℤ = c.args.k in
    let s : ℤ = c.self.inside.shift in
    let shift : ℤ = c.in-Some.shift in
    let numbers = c.self.inside.before.items in
    let fits : FitsSigned w128 shift = search rules in
    let fits_k : FitsSigned w128 k = c.ranges.k in
    let fits_s : FitsSigned w128 s = c.self.invariant.shift_fits in
    let sum : shift ≡ to_z w128 (of_z w128 s) +ℤ to_z w128 (of_z w128 k) = c.in-Some.ensures.1 in
    let is_sum : shift ≡ s +ℤ k = omega (arith, ints) in
    let same = to_z-of_z w128 shift fits in
    let after : c.with_shift.result ≡ moved shift numbers = c.with_shift.ensures ∙ ap (λ z. moved z numbers) same in
    let fit : Fit (moved shift numbers) = subst Fit (ap (λ z. moved z c.as_slice.result.now) same ∙ ap (moved shift) c.as_slice.ensures.value) (c.have_sums.ensures c.if-not-have_sums.false) in
    record {
      each = after ∙ ap (λ z. moved z numbers) is_sum ∙ moved_twice s k numbers ∙ ap (moved k) c.self.view_is;
      fit = subst Fit c.self.view_is c.self.invariant.fit;
      still_fit = subst Fit (sym after) fit;
    }
