use Rattle.std.proofs.Common.{◌+◌, ◌*◌, ◌∷◌, [], refl, arith}
use Rattle.std.proofs.lemmas.Result.{IfOk-weaker}
use Rattle.bit_length.specs.Lengths.{Has, Sums}
use Rattle.bit_length.specs.Runs.{InRun, InSome, AreRunsOf}
use Rattle.bit_length.proofs.SetLemmas.{last_run, only_run, own_parts, runs_same, sums_alike, wide_runs}
use Rattle.bit_length.proofs.SumLemmas.{factor_positive}
use Rattle.bit_length.proofs.run_set.RunSet.sums_with.Goals as goal

pub moved-requires-clause-short : goal.moved-requires-clause-short
moved-requires-clause-short c =
    let value = own_parts c.self.inside.step c.args.step c.self.inside.others.items c.self.inside.last c.args.self.now c.self.invariant c.self.view_is c.if-self-step.true in
    rw c.as_slice-others.ensures.value (λ m n x y. c.requires.short (m + n) (m, n, x, (value n).1 y, refl))

pub returns-then-self-step : goal.returns-then-self-step
returns-then-self-step c =
    let s = c.args.step in
    let one = InRun s c.args.one.now in
    let all = InSome s (c.self.inside.last ∷ c.self.inside.others.items) in
    let has = Has c.args.self.now in
    let value = own_parts c.self.inside.step s c.self.inside.others.items c.self.inside.last c.args.self.now c.self.invariant c.self.view_is c.if-self-step.true in
    IfOk-weaker c.moved.result (λ r. AreRunsOf s r.items (Sums one all)) (λ r. AreRunsOf s r.items (Sums one has))
    (λ r. runs_same s r.items (Sums one all) (Sums one has) (sums_alike one one all has (λ k. (λ x. x, λ x. x)) (λ k. let w = value k in (w.1, w.0))))
    (rw c.as_slice-others.ensures.value at c.moved.ensures)

pub wide_sums-requires-clause-short : goal.wide_sums-requires-clause-short
wide_sums-requires-clause-short c =
    let runs = wide_runs c.self.inside.step (c.args.step * c.in-Some.many) c.in_ok-runs_at-in-Some.field-0.items (Has c.args.self.now) c.in-Some.ensures c.in_ok-runs_at-in-Some.ensures.runs in
    rw c.deref.ensures.value (λ m n x y. c.requires.short (m + n) (m, n, x, (runs.same n).0 y, refl))

pub wide_sums-requires-clause-positive : goal.wide_sums-requires-clause-positive
wide_sums-requires-clause-positive c =
    let last = last_run c.self.inside.step c.self.inside.others.items c.self.inside.last c.self.invariant in
    factor_positive c.args.step c.in-Some.many c.self.inside.step c.in-Some.ensures (omega (arith, last.0))

pub wide_sums-requires-clause-runs : goal.wide_sums-requires-clause-runs
wide_sums-requires-clause-runs c =
    let runs = wide_runs c.self.inside.step (c.args.step * c.in-Some.many) c.in_ok-runs_at-in-Some.field-0.items (Has c.args.self.now) c.in-Some.ensures c.in_ok-runs_at-in-Some.ensures.runs in
    rw c.deref.ensures.value runs.each

pub returns-in_ok-runs_at-in-Some : goal.returns-in_ok-runs_at-in-Some
returns-in_ok-runs_at-in-Some c =
    let s = c.args.step in
    let w = c.args.step * c.in-Some.many in
    let a = c.in_ok-runs_at-in-Some.field-0.items in
    let one = InRun s c.args.one.now in
    let all = InSome w a in
    let has = Has c.args.self.now in
    let runs = wide_runs c.self.inside.step w a has c.in-Some.ensures c.in_ok-runs_at-in-Some.ensures.runs in
    IfOk-weaker c.wide_sums.result (λ r. AreRunsOf s r.items (Sums one all)) (λ r. AreRunsOf s r.items (Sums one has))
    (λ r. runs_same s r.items (Sums one all) (Sums one has) (sums_alike one one all has (λ k. (λ x. x, λ x. x)) runs.same))
    (rw c.deref.ensures.value at c.wide_sums.ensures)

pub sums-requires-clause-short : goal.sums-requires-clause-short
sums-requires-clause-short c =
    rw c.deref-in_default.ensures.value (λ m n x y. c.requires.short (m + n) (m, n, (only_run c.args.step c.args.one.now m).1 x, (c.in_ok-runs_at-in_default.ensures.runs.same n).0 y, refl))

pub returns-in_ok-runs_at-in_default : goal.returns-in_ok-runs_at-in_default
returns-in_ok-runs_at-in_default c =
    let s = c.args.step in
    let one = InRun s c.args.one.now in
    let ones = InSome s (c.args.one.now ∷ []) in
    let all = InSome s c.in_ok-runs_at-in_default.field-0.items in
    let has = Has c.args.self.now in
    IfOk-weaker c.sums.result (λ r. AreRunsOf s r.items (Sums ones all)) (λ r. AreRunsOf s r.items (Sums one has))
    (λ r. runs_same s r.items (Sums ones all) (Sums one has) (sums_alike ones one all has (λ k. let w = only_run s c.args.one.now k in (w.1, w.0)) c.in_ok-runs_at-in_default.ensures.runs.same))
    (rw c.deref-in_default.ensures.value at c.sums.ensures)
