use Rattle.std.proofs.Common.{arith, ◌≡◌, subst, sym}
use Rattle.std.proofs.lemmas.Nat.Gcd.{dvd_refl, dvd-zero, mod-eq-zero_of_dvd}
use Rattle.std.proofs.Math.Nat.{dvd-mod_iff}
use Rattle.std.specs.Int.{◌∣◌}
use Rattle.bit_length.proofs.steps.common_divisor.Goals as goal

pub loop-y-preserved : goal.loop-y-preserved
loop-y-preserved c = record {
  divides = λ d p q. c.loop-y.invariant.divides d ((dvd-mod_iff d p).0 q) p;
  positive = λ h. omega arith;
}

pub returns : goal.returns
returns c =
    let e : c.loop-y.y ≡ 0 = omega arith in
    let w = c.loop-y.invariant.divides c.loop-y.x (dvd_refl c.loop-y.x) (subst (λ t. c.loop-y.x ∣ t) (sym e) (dvd-zero c.loop-y.x)) in
    record {
      left = mod-eq-zero_of_dvd c.loop-y.x w.0;
      right = mod-eq-zero_of_dvd c.loop-y.x w.1;
      positive = λ h. let p = c.loop-y.invariant.positive h in omega arith;
    }
