use Rattle.std.proofs.Common.{ℕ, ℤ, ◌+ℤ◌, ◌-◌, ◌<◌, FitsSigned, length, get_or, subst, rules}
use Rattle.std.proofs.lemmas.Int.{to_z-of_z}
use Rattle.std.specs.Int.{w128}
use Rattle.const_expr.proofs.ShiftLemmas.{all_fit}
use Rattle.const_expr.proofs.shifted.have_sums.Goals as goal

pub returns-then-has_sum : goal.returns-then-has_sum
returns-then-has_sum c e =
    let some : 0 < length c.args.numbers.now = search rules in
    let same = to_z-of_z w128 c.args.k c.ranges.k in
    let at = λ (i : ℕ) (k : ℤ). (d : ℤ) → FitsSigned w128 (get_or c.args.numbers.now i d +ℤ k) in
    all_fit c.args.numbers.now c.args.k c.requires some
    (subst (at 0) same (c.has_sum.ensures c.if-has_sum.true))
    (subst (at (length c.args.numbers.now - 1)) same (c.has_sum-then-has_sum.ensures e))
