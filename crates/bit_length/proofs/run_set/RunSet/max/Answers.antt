use Rattle.std.proofs.Common.{◌+◌, arith, get_or}
use Rattle.bit_length.specs.Lengths.{Has}
use Rattle.bit_length.specs.Runs.{InSome, InRun}
use Rattle.bit_length.proofs.SetLemmas.{front, front_more, greatest_either, greatest_of, greatest_same, value_at, other_run, no_run}
use Rattle.bit_length.proofs.run_set.RunSet.max.Goals as goal

pub loop-run-preserved : goal.loop-run-preserved
loop-run-preserved c =
    let s = c.self.inside.step in
    let others = c.self.inside.others.items in
    let last = c.self.inside.last in
    let i = c.loop-run.run-index in
    let lt = rw c.deref-run-items.ensures.value at c.loop-run-test.true in
    let m = rw c.deref-run-items.ensures.value at c.member.ensures.value in
    (greatest_either (InSome s (front others last i)) (InRun s (get_or others i no_run)) (InSome s (front others last (i + 1))) c.loop-run.greatest c.member.result c.max-greatest.result (front_more s others last i no_run lt) c.loop-run.invariant.0 (rw m (greatest_of s (get_or others i no_run) (other_run s others last i c.self.invariant lt))) c.max-greatest.ensures, omega (arith, c.member.ensures.short))

pub returns-clause-greatest : goal.returns-clause-greatest
returns-clause-greatest c =
    let done = rw c.deref-run-items.ensures.value at c.loop-run-test.false in
    greatest_same (InSome c.self.inside.step (front c.self.inside.others.items c.self.inside.last c.loop-run.run-index)) (Has c.args.self.now) c.loop-run.greatest (value_at c.self.inside.step c.self.inside.others.items c.self.inside.last c.args.self.now c.loop-run.run-index c.self.invariant c.self.view_is done) c.loop-run.invariant.0
