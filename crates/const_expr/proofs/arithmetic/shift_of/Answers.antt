use Rattle.std.proofs.Common.{◌≡◌, FitsSigned, Some, IfSome, neg_ℤ, ap, sym, subst, rules}
use Rattle.std.proofs.lemmas.Int.{to_z-of_z}
use Rattle.std.specs.Int.{w128}
use Rattle.const_expr.specs.declared.operator.Arithmetic.TheVariants as a
use Rattle.const_expr.specs.Constants.{whole_of}
use Rattle.const_expr.specs.Shifts.{IsShift}
use Rattle.const_expr.proofs.ShiftLemmas.{adds, takes, some_value}
use Rattle.const_expr.proofs.arithmetic.shift_of.Goals as goal

pub returns-in-Add : goal.returns-in-Add
returns-in-Add c =
    let n = c.in_ok-n.n in
    let fits : FitsSigned w128 n = search rules in
    let is : whole_of c.args.y ≡ Some n = sym c.in_ok-n.ensures in
    let k = to_z-of_z w128 n fits in
    subst (IsShift c.args.sign c.args.y) (sym k) (subst (λ s. IsShift s c.args.y n) (sym c.in-Add.is) (adds c.args.y n is fits))

pub returns-in-Sub : goal.returns-in-Sub
returns-in-Sub c =
    let n = c.in_ok-n.n in
    let fits : FitsSigned w128 n = search rules in
    let is : whole_of c.args.y ≡ Some n = sym c.in_ok-n.ensures in
    let k = ap neg_ℤ (to_z-of_z w128 n fits) in
    subst (λ s. IfSome c.checked_neg.result (IsShift s c.args.y)) (sym c.in-Sub.is)
    (some_value c.checked_neg.result _ _ (IsShift a.Sub c.args.y) c.checked_neg.ensures (subst (IsShift a.Sub c.args.y) (sym k) (takes c.args.y n is fits)))
