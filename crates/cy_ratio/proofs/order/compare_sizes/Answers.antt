use Rattle.std.proofs.Common.{◌≡◌, ◌*◌, ◌%◌, ap, ◌∙◌, arith}
use Rattle.std.specs.Ordering.{nat_cmp}
use Rattle.std.proofs.Math.Nat.{mul_comm}
use Rattle.cy_ratio.proofs.OrderLemmas.{by_wholes, by_rests, by_no_rest}
use Rattle.cy_ratio.proofs.order.compare_sizes.Goals as goal
use Rattle.cy_ratio.proofs.order.compare_sizes.Goals.{then-left-eq0-via-then-left-eq0, then-left-eq0-via-else-left-eq0+then-right-eq0}

pub returns-then-whole-other : goal.returns-then-whole-other
returns-then-whole-other c =
    c.cmp.ensures ∙ by_wholes c.loop-x.x.0 c.loop-x.x.1 c.loop-x.y.0 c.loop-x.y.1 c.loop-x.invariant.left c.loop-x.invariant.right c.if-whole-other.true ∙ c.loop-x.invariant.same

pub returns-then-left-eq0 : goal.returns-then-left-eq0
returns-then-left-eq0 c =
    let x = c.loop-x.x in
    let y = c.loop-x.y in
    let left = x.0 % x.1 in
    let right = y.0 % y.1 in
    let none : left * right ≡ 0 = elim c.then-left-eq0.branch [
      | then-left-eq0-via-then-left-eq0 w ↦ let e : left ≡ 0 = omega arith in omega (arith, ap (λ n. n * right) e)
      | then-left-eq0-via-else-left-eq0+then-right-eq0 w ↦ let e : right ≡ 0 = omega arith in omega (arith, ap (λ n. left * n) e)
    ] in
    c.cmp-then-left-eq0.ensures ∙ by_no_rest left right x.1 y.1 c.loop-x.invariant.left c.loop-x.invariant.right none ∙ by_rests x.0 x.1 y.0 y.1 (omega arith) ∙ c.loop-x.invariant.same

pub loop-x-preserved : goal.loop-x-preserved
loop-x-preserved c =
    let x = c.loop-x.x in
    let y = c.loop-x.y in
    record {
      left = omega arith;
      right = omega arith;
      same = ap (λ n. nat_cmp n (x.1 * (y.0 % y.1))) (mul_comm y.1 (x.0 % x.1)) ∙ ap (nat_cmp (x.0 % x.1 * y.1)) (mul_comm x.1 (y.0 % y.1)) ∙ by_rests x.0 x.1 y.0 y.1 (omega arith) ∙ c.loop-x.invariant.same;
    }
