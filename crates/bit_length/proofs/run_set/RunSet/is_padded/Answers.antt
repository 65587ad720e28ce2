use Rattle.std.proofs.Common.{◌<◌, ◌≡◌, ◌%◌, ℕ, length, get_or, inl, inr, arith, subst}
use Rattle.std.proofs.lemmas.Bool.{cases_lt}
use Rattle.bit_length.proofs.SetLemmas.{no_run}
use Rattle.bit_length.proofs.SumLemmas.{all_padded}
use Rattle.bit_length.proofs.run_set.RunSet.is_padded.Goals as goal

pub loop-run-init : goal.loop-run-init
loop-run-init c = λ k lt. absurd (omega arith)

pub loop-run-preserved : goal.loop-run-preserved
loop-run-preserved c = λ k lt.
    let i = c.loop-run.run-index in
    let items = c.deref-run-items.result.now in
    elim (cases_lt k i) [
      | inl h ↦ c.loop-run.invariant k h
      | inr h ↦ let e : i ≡ k = omega arith in subst (λ j. (get_or items j no_run).residue % c.args.to ≡ 0) e c.if-run-to-ne0.false
    ]

pub returns : goal.returns
returns c = λ _.
    all_padded c.self.inside.step c.args.to c.self.inside.others.items c.self.inside.last c.args.self.now c.self.invariant c.self.view_is c.requires c.if-self-to-ne0.false c.if-self-to-ne0-2.false
    (subst (λ items. (k : ℕ) → k < length items → (get_or items k no_run).residue % c.args.to ≡ 0) c.deref-run-items.ensures.value
    (λ k lt. c.loop-run.invariant k (omega (arith, c.loop-run-test.false))))
