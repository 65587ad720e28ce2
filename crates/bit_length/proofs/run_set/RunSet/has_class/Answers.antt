use Rattle.std.proofs.Common.{ℕ, ◌+◌, ◌*◌, ◌/◌, ◌-◌, arith, rules, refl, ap, ◌∙◌}
use Rattle.bit_length.specs.Lengths.{Has}
use Rattle.bit_length.specs.Moved.{Moved}
use Rattle.bit_length.proofs.WithinLemmas.{class_more, class_all}
use Rattle.bit_length.proofs.run_set.RunSet.has_class.Goals as goal

pub loop-quotient-init : goal.loop-quotient-init
loop-quotient-init c = (0, omega arith, λ i lt. absurd (omega arith))

pub loop-quotient-preserved : goal.loop-quotient-preserved
loop-quotient-preserved c =
    let s = c.args.step in
    let r = c.args.run.now in
    let j = c.loop-quotient.invariant.0 in
    let n = c.member-n.result in
    let end = c.in-Some.end in
    let x : ℕ = (end - n) / s / c.args.period in
    let at = c.member-n.ensures.value ∙ ap (λ t. r.residue + s * t) c.loop-quotient.invariant.1 in (
      j + (end - n) / s / c.args.period + 1,
      omega (arith, c.loop-quotient.invariant.1),
      class_more (Moved c.args.at (Has c.args.self.now)) s c.args.period c.args.from j n end ((end - n) / s / c.args.period) r c.loop-quotient.invariant.2 at c.in-Some.ensures.2 c.in-Some.ensures.0 refl (omega (arith, c.requires.run.0)) c.requires.period,
    )

pub returns : goal.returns
returns c =
    (λ _. class_all (Moved c.args.at (Has c.args.self.now)) c.args.step c.args.period c.args.from c.loop-quotient.invariant.0 c.loop-quotient.quotient c.args.run.now c.loop-quotient.invariant.2 c.loop-quotient.invariant.1 c.loop-quotient-test.false, λ _. search rules)
