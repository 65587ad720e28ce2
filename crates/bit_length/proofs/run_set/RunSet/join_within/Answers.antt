use Rattle.std.proofs.Common.{◌++◌, inl}
use Rattle.bit_length.specs.Lengths.{Has, Joins}
use Rattle.bit_length.specs.Runs.{InRun, InSome}
use Rattle.bit_length.proofs.SetLemmas.{done, some_of, runs_joined, same_join, zero_and}
use Rattle.bit_length.proofs.run_set.RunSet.join_within.Goals as goal

pub from_runs-requires-clause-some : goal.from_runs-requires-clause-some
from_runs-requires-clause-some c =
    let s = c.common_step-step.result in
    let a = c.in_ok-runs.runs.items in
    let b = c.in_ok-runs_at.field-0.items in
    rw (c.in_ok-extend_from_slice.ensures.items, c.as_slice.ensures.value) (some_of s (a ++ b) (Joins (Has c.args.self.now) (Has c.args.o.now)) (runs_joined s a b (Has c.args.self.now) (Has c.args.o.now) c.in_ok-runs.ensures.runs c.in_ok-runs_at.ensures.runs) (c.in_ok-runs.ensures.some.0, inl c.in_ok-runs.ensures.some.1))

pub returns : goal.returns
returns c =
    let s = c.common_step-step.result in
    let a = c.in_ok-runs.runs.items in
    let b = c.in_ok-runs_at.field-0.items in
    let made = rw (c.in_ok-extend_from_slice.ensures.items, c.as_slice.ensures.value) at c.from_runs.ensures in
    done c.from_runs.result (InSome s (a ++ b)) (Joins (Has c.args.self.now) (Has c.args.o.now)) (runs_joined s a b (Has c.args.self.now) (Has c.args.o.now) c.in_ok-runs.ensures.runs c.in_ok-runs_at.ensures.runs).same made

pub from_runs-requires-clause-each : goal.from_runs-requires-clause-each
from_runs-requires-clause-each c =
    let s = c.common_step-step.result in
    let a = c.in_ok-runs.runs.items in
    let b = c.in_ok-runs_at.field-0.items in
    rw (c.in_ok-extend_from_slice.ensures.items, c.as_slice.ensures.value) (runs_joined s a b (Has c.args.self.now) (Has c.args.o.now) c.in_ok-runs.ensures.runs c.in_ok-runs_at.ensures.runs).each

pub returns-in-Some : goal.returns-in-Some
returns-in-Some c =
    same_join (Has c.one.result) (InRun c.in-Some.n (record { residue = 0; first = 0; last = 1 })) (Joins (Has c.args.self.now) (Has c.args.o.now)) c.one.ensures
    (zero_and c.in-Some.n (Has c.args.self.now) (Has c.args.o.now) c.in-Some.ensures.member c.in-Some.ensures.zero)
