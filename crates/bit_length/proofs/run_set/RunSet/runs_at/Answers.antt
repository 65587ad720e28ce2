use Rattle.std.proofs.Common.{◌+◌, sym, take, get_or, []}
use Rattle.bit_length.specs.Lengths.{Has, Joins}
use Rattle.bit_length.specs.Runs.{InRun, InSome}
use Rattle.bit_length.proofs.SetLemmas.{no_run, own_runs, value_turned, other_run, last_run, some_member}
use Rattle.bit_length.proofs.MemberLemmas.{Adds-join, Adds-none, Adds-same}
use Rattle.bit_length.proofs.SumLemmas.{taken_more, from_nothing}
use Rattle.bit_length.proofs.run_set.RunSet.runs_at.Goals as goal

pub loop-run-init : goal.loop-run-init
loop-run-init c =
    rw c.in_ok-parts.ensures.items (Adds-none c.args.step [] (InSome c.self.inside.step []) (λ n h. h))

pub loop-run-preserved : goal.loop-run-preserved
loop-run-preserved c =
    let s = c.self.inside.step in
    let others = c.self.inside.others.items in
    let i = c.loop-run.run-index in
    let lt = rw c.deref-run-items.ensures.value at c.loop-run-test.true in
    let added = rw c.deref-run-items.ensures.value at c.in_ok-push_parts.ensures in
    Adds-same c.args.step [] c.push_parts.new.parts.items (Joins (InSome s (take i others)) (InRun s (get_or others i no_run))) (InSome s (take (i + 1) others)) (Adds-join c.args.step [] c.loop-run.parts.items c.push_parts.new.parts.items (InSome s (take i others)) (InRun s (get_or others i no_run)) c.loop-run.invariant added) (λ n. let w = taken_more s others i lt n in (w.1, w.0))

pub push_parts-requires-clause-run : goal.push_parts-requires-clause-run
push_parts-requires-clause-run c =
    let lt = rw c.deref-run-items.ensures.value at c.loop-run-test.true in
    rw c.deref-run-items.ensures.value (other_run c.self.inside.step c.self.inside.others.items c.self.inside.last c.loop-run.run-index c.self.invariant lt)

pub push_parts-requires-2-clause-run : goal.push_parts-requires-2-clause-run
push_parts-requires-2-clause-run c =
    last_run c.self.inside.step c.self.inside.others.items c.self.inside.last c.self.invariant

pub returns-clause-some : goal.returns-clause-some
returns-clause-some c =
    some_member c.self.inside.step c.self.inside.others.items c.self.inside.last c.args.self.now c.self.invariant c.self.view_is

pub returns-clause-runs : goal.returns-clause-runs
returns-clause-runs c =
    let s = c.self.inside.step in
    let others = c.self.inside.others.items in
    let last = c.self.inside.last in
    let i = c.loop-run.run-index in
    let done = rw c.deref-run-items.ensures.value at c.loop-run-test.false in
    from_nothing c.args.step c.push_parts-2.new.parts.items (Has c.args.self.now) (Adds-same c.args.step [] c.push_parts-2.new.parts.items (Joins (InSome s (take i others)) (InRun s last)) (Has c.args.self.now) (Adds-join c.args.step [] c.loop-run.parts.items c.push_parts-2.new.parts.items (InSome s (take i others)) (InRun s last) c.loop-run.invariant c.in_ok-push_parts-2.ensures) (value_turned s others last c.args.self.now i c.self.invariant c.self.view_is done))

pub returns-then-step-self-clause-runs : goal.returns-then-step-self-clause-runs
returns-then-step-self-clause-runs c =
    rw (c.in_ok-push.ensures.items, c.in_ok-extend_from_slice.ensures.items, c.in_ok-parts.ensures.items, c.as_slice.ensures.value) (own_runs c.self.inside.step c.args.step c.self.inside.others.items c.self.inside.last c.args.self.now c.self.invariant c.self.view_is (sym c.if-step-self.true))

pub returns-then-step-self-clause-some : goal.returns-then-step-self-clause-some
returns-then-step-self-clause-some c =
    some_member c.self.inside.step c.self.inside.others.items c.self.inside.last c.args.self.now c.self.invariant c.self.view_is
