use Rattle.std.proofs.Common.{◌≡◌, pos, ap, arith}
use Rattle.std.proofs.lemmas.Int.{ints}
use Rattle.const_expr.specs.Constants.{whole}
use Rattle.const_expr.proofs.CompareLemmas.{is_that}
use Rattle.const_expr.proofs.compare.length_of.Goals as goal
use Rattle.const_expr.proofs.compare.length_of.Goals.{else-den-eq1-via-then-den-eq1+then-num-ge0+else-num, else-den-eq1-via-then-den-eq1+else-num-ge0, else-den-eq1-via-else-den-eq1}

pub returns-else-den-eq1 : goal.returns-else-den-eq1
returns-else-den-eq1 c n le e =
    let same : c.args.x ≡ whole (pos n) = is_that c.args.x n c.den.ensures.reduced e in
    let den : c.args.x.den ≡ 1 = ap (λ f. f.den) same in
    let num : c.args.x.num ≡ pos n = ap (λ f. f.num) same in
    elim c.else-den-eq1.branch [
      | else-den-eq1-via-then-den-eq1+then-num-ge0+else-num w ↦ omega (arith, ints)
      | else-den-eq1-via-then-den-eq1+else-num-ge0 w ↦ omega (arith, ints)
      | else-den-eq1-via-else-den-eq1 w ↦ omega (arith, ints)
    ]
