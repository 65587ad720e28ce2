use Rattle.std.proofs.Common.{◌≡◌, ◌∷◌, ℕ, ◌%◌, ◌<◌, length, get_or, inl, inr, subst, arith}
use Rattle.std.proofs.Math.Nat.{mod_self}
use Rattle.std.proofs.lemmas.Bool.{cases_lt}
use Rattle.bit_length.proofs.SetLemmas.{no_run, last_run, value_parts}
use Rattle.bit_length.proofs.SumLemmas.{all_multiples, residues_behind}
use Rattle.bit_length.proofs.MovedLemmas.{whole_again}
use Rattle.bit_length.proofs.run_set.RunSet.divisor.Goals as goal

pub loop-run-init : goal.loop-run-init
loop-run-init c =
    let run = last_run c.self.inside.step c.self.inside.others.items c.self.inside.last c.self.invariant in
    record {
      positive = c.common_divisor-divisor.ensures.positive (omega (arith, run.0));
      first = mod_self c.common_divisor-divisor.result;
      each = λ k lt. absurd (omega arith);
    }

pub loop-run-preserved : goal.loop-run-preserved
loop-run-preserved c =
    let i = c.loop-run.run-index in
    let items = c.deref-run-items.result.now in
    let old = c.loop-run.divisor in
    let e = c.common_divisor-divisor-in-loop-run.ensures in
    let new = c.common_divisor-divisor-in-loop-run.result in
    record {
      positive = e.positive c.loop-run.invariant.positive;
      first = whole_again c.common_divisor-divisor.result old new e.right c.loop-run.invariant.first;
      each = λ k lt. elim (cases_lt k i) [
        | inl h ↦ whole_again (get_or items k no_run).residue old new e.right (c.loop-run.invariant.each k h)
        | inr h ↦ let f : i ≡ k = omega arith in subst (λ j. (get_or items j no_run).residue % new ≡ 0) f e.left
      ];
    }

pub returns-clause-divides : goal.returns-clause-divides
returns-clause-divides c =
    let s = c.self.inside.step in
    let others = c.self.inside.others.items in
    let last = c.self.inside.last in
    let first = c.common_divisor-divisor.result in
    let d = c.loop-run.divisor in
    let e = c.common_divisor-divisor.ensures in
    let whole = whole_again s first d c.loop-run.invariant.first e.right in
    let residue = whole_again last.residue first d c.loop-run.invariant.first e.left in
    let each = subst (λ items. (k : ℕ) → k < length items → (get_or items k no_run).residue % d ≡ 0) c.deref-run-items.ensures.value
    (λ k lt. c.loop-run.invariant.each k (omega (arith, c.loop-run-test.false))) in
    λ n h. all_multiples s d (last ∷ others) whole (residues_behind d last others residue each) n ((value_parts s others last c.args.self.now c.self.invariant c.self.view_is n).0 h)
