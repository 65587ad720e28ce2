use Rattle.std.proofs.Common.{◌≡◌, ◌<◌, ◌≤◌, ◌∙◌, sym, ap, subst, arith}
use Rattle.cy_ratio.specs.Fraction.{gcd}
use Rattle.cy_ratio.proofs.GcdLemmas.{gcd-mod, gcd-zero, gcd_positive, gcd_at_most}
use Rattle.cy_ratio.proofs.named.gcd.Goals as goal

pub loop-y-preserved : goal.loop-y-preserved
loop-y-preserved c = gcd-mod c.loop-y.x c.loop-y.y (omega arith) ∙ c.loop-y.invariant

pub returns : goal.returns
returns c =
    let none : c.loop-y.y ≡ 0 = omega arith in
    let is : c.loop-y.x ≡ gcd c.args.a c.args.b = sym (gcd-zero c.loop-y.x) ∙ ap (gcd c.loop-y.x) (sym none) ∙ c.loop-y.invariant in
    record {
      value = is;
      positive = λ p. subst (λ n. 0 < n) (sym is) (gcd_positive c.args.a c.args.b p);
      at_most = λ p. subst (λ n. n ≤ c.args.b) (sym is) (gcd_at_most c.args.a c.args.b p);
    }
