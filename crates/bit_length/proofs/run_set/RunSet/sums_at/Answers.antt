use Rattle.std.proofs.Common.{◌+◌, refl}
use Rattle.std.proofs.lemmas.Result.{IfOk-weaker}
use Rattle.bit_length.specs.Lengths.{Has, Sums}
use Rattle.bit_length.specs.Runs.{InRun, InSome, AreRunsOf}
use Rattle.bit_length.proofs.SetLemmas.{runs_same, sums_alike, sums_left, sums_right}
use Rattle.bit_length.proofs.run_set.RunSet.sums_at.Goals as goal

pub sums_with-requires-clause-short : goal.sums_with-requires-clause-short
sums_with-requires-clause-short c = λ n h.
    c.requires.short n ((sums_right (InRun c.args.step c.in-Some.run') (Has c.args.self.now) (Has c.args.o.now) c.in-Some.ensures.members n).0 h)

pub returns-in-Some : goal.returns-in-Some
returns-in-Some c =
    let s = c.args.step in
    let one = InRun s c.in-Some.run' in
    let self = Has c.args.self.now in
    let other = Has c.args.o.now in
    IfOk-weaker c.sums_with.result (λ r. AreRunsOf s r.items (Sums one self)) (λ r. AreRunsOf s r.items (Sums self other))
    (λ r. runs_same s r.items (Sums one self) (Sums self other) (sums_right one self other c.in-Some.ensures.members))
    c.sums_with.ensures

pub sums_with-requires-in-Some-as_run-clause-short :
    goal.sums_with-requires-in-Some-as_run-clause-short
sums_with-requires-in-Some-as_run-clause-short c = λ n h.
    c.requires.short n ((sums_left (InRun c.args.step c.in-Some-as_run.run') (Has c.args.o.now) (Has c.args.self.now) c.in-Some-as_run.ensures.members n).0 h)

pub returns-in-Some-as_run : goal.returns-in-Some-as_run
returns-in-Some-as_run c =
    let s = c.args.step in
    let one = InRun s c.in-Some-as_run.run' in
    let self = Has c.args.self.now in
    let other = Has c.args.o.now in
    IfOk-weaker c.sums_with-in-Some-as_run.result (λ r. AreRunsOf s r.items (Sums one other)) (λ r. AreRunsOf s r.items (Sums self other))
    (λ r. runs_same s r.items (Sums one other) (Sums self other) (sums_left one other self c.in-Some-as_run.ensures.members))
    c.sums_with-in-Some-as_run.ensures

pub sums-requires-clause-short : goal.sums-requires-clause-short
sums-requires-clause-short c =
    rw (c.deref.ensures.value, c.deref-2.ensures.value) (λ m n x y. c.requires.short (m + n) (m, n, (c.in_ok-runs_at.ensures.runs.same m).0 x, (c.in_ok-runs_at-2.ensures.runs.same n).0 y, refl))

pub returns : goal.returns
returns c =
    let s = c.args.step in
    let a = InSome s c.in_ok-runs_at.field-0.items in
    let b = InSome s c.in_ok-runs_at-2.field-0.items in
    let self = Has c.args.self.now in
    let other = Has c.args.o.now in
    IfOk-weaker c.sums.result (λ r. AreRunsOf s r.items (Sums a b)) (λ r. AreRunsOf s r.items (Sums self other))
    (λ r. runs_same s r.items (Sums a b) (Sums self other) (sums_alike a self b other c.in_ok-runs_at.ensures.runs.same c.in_ok-runs_at-2.ensures.runs.same))
    (rw (c.deref.ensures.value, c.deref-2.ensures.value) at c.sums.ensures)
