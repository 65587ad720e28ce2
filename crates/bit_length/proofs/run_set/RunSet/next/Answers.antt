use Rattle.std.proofs.Common.{[], ◌∷◌, ◌+◌, get_or}
use Rattle.bit_length.specs.Lengths.{Has}
use Rattle.bit_length.specs.Runs.{InSome, InRun}
use Rattle.bit_length.proofs.SetLemmas.{front, front_more, next_either, next_same, value_at, other_run, no_run, only_run}
use Rattle.bit_length.proofs.run_set.RunSet.next.Goals as goal

pub loop-run-init : goal.loop-run-init
loop-run-init c =
    next_same (InRun c.self.inside.step c.self.inside.last) (InSome c.self.inside.step (c.self.inside.last ∷ [])) c.args.n c.next-least.result (only_run c.self.inside.step c.self.inside.last) c.next-least.ensures

pub next-requires : goal.next-requires
next-requires c =
    let lt = rw c.deref-run-items.ensures.value at c.loop-run-test.true in
    rw c.deref-run-items.ensures.value (other_run c.self.inside.step c.self.inside.others.items c.self.inside.last c.loop-run.run-index c.self.invariant lt)

pub loop-run-preserved : goal.loop-run-preserved
loop-run-preserved c =
    let s = c.self.inside.step in
    let others = c.self.inside.others.items in
    let last = c.self.inside.last in
    let i = c.loop-run.run-index in
    let lt = rw c.deref-run-items.ensures.value at c.loop-run-test.true in
    let m = rw c.deref-run-items.ensures.value at c.next.ensures in
    rw c.lesser-least.ensures (next_either (InSome s (front others last i)) (InRun s (get_or others i no_run)) (InSome s (front others last (i + 1))) c.args.n c.loop-run.least c.next.result (front_more s others last i no_run lt) c.loop-run.invariant m)

pub returns : goal.returns
returns c =
    let done = rw c.deref-run-items.ensures.value at c.loop-run-test.false in
    next_same (InSome c.self.inside.step (front c.self.inside.others.items c.self.inside.last c.loop-run.run-index)) (Has c.args.self.now) c.args.n c.loop-run.least (value_at c.self.inside.step c.self.inside.others.items c.self.inside.last c.args.self.now c.loop-run.run-index c.self.invariant c.self.view_is done) c.loop-run.invariant
