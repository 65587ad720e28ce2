use Rattle.std.proofs.Common.{◌≡◌, inl, inr, ◌≤◌, true, false, sym, ap, ◌∙◌, arith}
use Rattle.const_expr.specs.Constants.{has, natural}
use Rattle.const_expr.proofs.SetLemmas.{side}
use Rattle.const_expr.proofs.CompareLemmas.{all_within, not_within}
use Rattle.const_expr.proofs.compare.lengths_in_set.Goals as goal

pub returns-then-not-has : goal.returns-then-not-has
returns-then-not-has c =
    let miss : has c.args.ys.now (natural c.in-Some.n) ≡ false = cc in
    sym (not_within c.args.lengths.now c.args.ys.now c.in-Some.n c.in-Some.ensures.0 miss)

pub overflow_add-from : goal.overflow_add-from
overflow_add-from c =
    let upper : c.in-Some.n ≤ c.max-greatest.result = c.max-greatest.ensures.greatest.1 c.in-Some.n c.in-Some.ensures.0 in
    omega arith

pub loop-n-smaller : goal.loop-n-smaller
loop-n-smaller c =
    let upper : c.in-Some.n ≤ c.max-greatest.result = c.max-greatest.ensures.greatest.1 c.in-Some.n c.in-Some.ensures.0 in
    let lower : c.loop-n.from ≤ c.in-Some.n = c.in-Some.ensures.1 in
    omega arith

pub loop-n-preserved : goal.loop-n-preserved
loop-n-preserved c =
    let upper : c.in-Some.n ≤ c.max-greatest.result = c.max-greatest.ensures.greatest.1 c.in-Some.n c.in-Some.ensures.0 in
    let found : has c.args.ys.now (natural c.in-Some.n) ≡ true = cc in
    record {
      bound = omega arith;
      passed = λ n t lt. elim (side n c.loop-n.from) [
        | inl before ↦ c.loop-n.invariant.passed n t before
        | inr behind ↦
            let least : c.in-Some.n ≤ n = c.in-Some.ensures.2 n t behind in
            let same : c.in-Some.n ≡ n = omega arith in
            ap (λ k. has c.args.ys.now (natural k)) (sym same) ∙ found
      ];
    }

pub returns : goal.returns
returns c = sym (all_within c.args.lengths.now c.args.ys.now (λ n t. c.loop-n.invariant.passed n t (c.in_default.ensures n t)))
