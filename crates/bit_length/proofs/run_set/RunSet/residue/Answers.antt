use Rattle.std.proofs.Common.{◌+◌, get_or, rules, inl, inr}
use Rattle.bit_length.specs.Runs.{InSome, InRun}
use Rattle.bit_length.proofs.SetLemmas.{front, front_more, leaves_either, last_member, other_member, no_run, value_at}
use Rattle.bit_length.proofs.run_set.RunSet.residue.Goals as goal

pub returns-then-leaves : goal.returns-then-leaves
returns-then-leaves c =
    let (n, h, e) = c.leaves.ensures.0 c.if-leaves.true in
    (λ _. (n, last_member c.self.inside.step c.self.inside.others.items c.self.inside.last c.args.self.now c.self.invariant c.self.view_is n h, e), λ _. search rules)

pub loop-run-init : goal.loop-run-init
loop-run-init c = λ (n, h, e). elim h [
  | inl k ↦ let t = c.leaves.ensures.1 (n, k, e) in search rules
  | inr k ↦ k
]

pub returns-then-leaves-2 : goal.returns-then-leaves-2
returns-then-leaves-2 c =
    let lt = rw c.deref-run-items.ensures.value at c.loop-run-test.true in
    let (n, h, e) = rw c.deref-run-items.ensures.value at (c.leaves-in-loop-run.ensures.0 c.if-leaves-2.true) in
    (λ _. (n, other_member c.self.inside.step c.self.inside.others.items c.self.inside.last c.args.self.now c.loop-run.run-index c.self.invariant c.self.view_is lt n h, e), λ _. search rules)

pub loop-run-preserved : goal.loop-run-preserved
loop-run-preserved c = λ h.
    let s = c.self.inside.step in
    let others = c.self.inside.others.items in
    let last = c.self.inside.last in
    let i = c.loop-run.run-index in
    let lt = rw c.deref-run-items.ensures.value at c.loop-run-test.true in
    elim (leaves_either (InSome s (front others last i)) (InRun s (get_or others i no_run)) (InSome s (front others last (i + 1))) c.args.k c.args.r (front_more s others last i no_run lt) h) [
      | inl x ↦ c.loop-run.invariant x
      | inr x ↦ let t = (rw c.deref-run-items.ensures.value at c.leaves-in-loop-run.ensures).1 x in search rules
    ]

pub returns : goal.returns
returns c =
    let done = rw c.deref-run-items.ensures.value at c.loop-run-test.false in
    (λ e. absurd (search rules), λ (n, h, e). absurd (c.loop-run.invariant (n, (value_at c.self.inside.step c.self.inside.others.items c.self.inside.last c.args.self.now c.loop-run.run-index c.self.invariant c.self.view_is done n).1 h, e)))
