use Rattle.std.proofs.Common.{◌+◌, ◌∷◌, [], rules, get_or}
use Rattle.bit_length.specs.Lengths.{Has}
use Rattle.bit_length.specs.Moved.{Moved}
use Rattle.bit_length.specs.Runs.{InRun, InSome}
use Rattle.bit_length.proofs.SetLemmas.{front, front_more, value_at, last_run, other_run, no_run, only_run, last_member, other_member}
use Rattle.bit_length.proofs.WithinLemmas.{within_either, within_same}
use Rattle.bit_length.proofs.MovedLemmas.{moved_same, moved_more, moved_part, moved_whole, short_run}
use Rattle.bit_length.proofs.run_set.RunSet.is_within.Goals as goal

pub moved-requires-clause-short : goal.moved-requires-clause-short
moved-requires-clause-short c =
    let s = c.self.inside.step in
    let others = c.self.inside.others.items in
    let last = c.self.inside.last in
    short_run c.args.by s last (Has c.args.self.now) (last_run s others last c.self.invariant) (last_member s others last c.args.self.now c.self.invariant c.self.view_is) c.requires

pub returns-then-not-has_run : goal.returns-then-not-has_run
returns-then-not-has_run c =
    let s = c.self.inside.step in
    let last = c.self.inside.last in
    (λ e. absurd (search rules), λ w. absurd (let t = c.has_run.ensures.1 (moved_part c.args.by (InRun s last) (InRun s c.moved.result) (Has c.args.self.now) (Moved c.args.at (Has c.args.o.now)) c.moved.ensures.moved (last_member s c.self.inside.others.items last c.args.self.now c.self.invariant c.self.view_is) w) in search rules))

pub loop-run-init : goal.loop-run-init
loop-run-init c =
    let s = c.self.inside.step in
    let last = c.self.inside.last in
    moved_whole c.args.by (InRun s last) (InRun s c.moved.result) (InSome s (last ∷ [])) (Moved c.args.at (Has c.args.o.now)) c.moved.ensures.moved (only_run s last) (c.has_run.ensures.0 c.if-not-has_run.false)

pub moved-requires-in-loop-run-clause-short : goal.moved-requires-in-loop-run-clause-short
moved-requires-in-loop-run-clause-short c =
    let s = c.self.inside.step in
    let others = c.self.inside.others.items in
    let last = c.self.inside.last in
    let i = c.loop-run.run-index in
    let lt = rw c.deref-run-items.ensures.value at c.loop-run-test.true in
    rw c.deref-run-items.ensures.value (short_run c.args.by s (get_or others i no_run) (Has c.args.self.now) (other_run s others last i c.self.invariant lt) (other_member s others last c.args.self.now i c.self.invariant c.self.view_is lt) c.requires)

pub returns-then-not-has_run-2 : goal.returns-then-not-has_run-2
returns-then-not-has_run-2 c =
    let s = c.self.inside.step in
    let others = c.self.inside.others.items in
    let last = c.self.inside.last in
    let i = c.loop-run.run-index in
    let lt = rw c.deref-run-items.ensures.value at c.loop-run-test.true in
    let same = rw c.deref-run-items.ensures.value at c.moved-in-loop-run.ensures.moved in
    (λ e. absurd (search rules), λ w. absurd (let t = c.has_run-in-loop-run.ensures.1 (moved_part c.args.by (InRun s (get_or others i no_run)) (InRun s c.moved-in-loop-run.result) (Has c.args.self.now) (Moved c.args.at (Has c.args.o.now)) same (other_member s others last c.args.self.now i c.self.invariant c.self.view_is lt) w) in search rules))

pub loop-run-preserved : goal.loop-run-preserved
loop-run-preserved c =
    let s = c.self.inside.step in
    let by = c.args.by in
    let others = c.self.inside.others.items in
    let last = c.self.inside.last in
    let i = c.loop-run.run-index in
    let next = InRun s c.moved-in-loop-run.result in
    let before = InSome s (front others last i) in
    let after = InSome s (front others last (i + 1)) in
    let lt = rw c.deref-run-items.ensures.value at c.loop-run-test.true in
    let same = rw c.deref-run-items.ensures.value at c.moved-in-loop-run.ensures.moved in
    within_either (Moved by before) next (Moved by after) (Moved c.args.at (Has c.args.o.now)) (moved_more by before (InRun s (get_or others i no_run)) next after (front_more s others last i no_run lt) same) c.loop-run.invariant (c.has_run-in-loop-run.ensures.0 c.if-not-has_run-2.false)

pub returns : goal.returns
returns c =
    let s = c.self.inside.step in
    let by = c.args.by in
    let others = c.self.inside.others.items in
    let last = c.self.inside.last in
    let i = c.loop-run.run-index in
    let all = InSome s (front others last i) in
    let done = rw c.deref-run-items.ensures.value at c.loop-run-test.false in
    (λ _. within_same (Moved by all) (Moved by (Has c.args.self.now)) (Moved c.args.at (Has c.args.o.now)) (moved_same by all (Has c.args.self.now) (value_at s others last c.args.self.now i c.self.invariant c.self.view_is done)) c.loop-run.invariant, λ _. search rules)
