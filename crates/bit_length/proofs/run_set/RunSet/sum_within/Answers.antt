use Rattle.std.proofs.Common.{◌+◌, ◌*◌, refl, arith}
use Rattle.bit_length.specs.Lengths.{Has, Only, Sums}
use Rattle.bit_length.specs.Runs.{InRun, InSome}
use Rattle.bit_length.proofs.SetLemmas.{done, some_of, sums_alike, some_member, some_sum, same_join, sums_only, sums_only_right}
use Rattle.bit_length.proofs.run_set.RunSet.sum_within.Goals as goal

pub from_runs-requires-clause-some : goal.from_runs-requires-clause-some
from_runs-requires-clause-some c =
    let self = Has c.args.self.now in
    let other = Has c.args.o.now in
    some_of c.common_step-step.result c.in_ok-runs.runs.items (Sums self other) c.in_ok-runs.ensures
    (some_sum self other (some_member c.self.inside.step c.self.inside.others.items c.self.inside.last c.args.self.now c.self.invariant c.self.view_is)
    (some_member c.o.inside.step c.o.inside.others.items c.o.inside.last c.args.o.now c.o.invariant c.o.view_is))

pub returns : goal.returns
returns c =
    done c.from_runs.result (InSome c.common_step-step.result c.in_ok-runs.runs.items) (Sums (Has c.args.self.now) (Has c.args.o.now)) c.in_ok-runs.ensures.same c.from_runs.ensures

pub plus-requires-clause-short : goal.plus-requires-clause-short
plus-requires-clause-short c =
    let a = c.in-Some-Some.a in
    let b = c.in-Some-Some.b in
    let m = a.residue + c.common_step-step.result * a.last in
    let n = b.residue + c.common_step-step.result * b.last in
    c.requires (m + n)
    (m, n, (c.in-Some-Some.ensures.members m).0 (a.last, c.in-Some-Some.ensures.run.1, omega arith, refl), (c.in-Some-Some.ensures'.members n).0 (b.last, c.in-Some-Some.ensures'.run.1, omega arith, refl), refl)

pub returns-in-Some-Some : goal.returns-in-Some-Some
returns-in-Some-Some c =
    let s = c.common_step-step.result in
    let a = c.in-Some-Some.a in
    let b = c.in-Some-Some.b in
    same_join (Has c.one.result) (InRun s c.plus.result) (Sums (Has c.args.self.now) (Has c.args.o.now)) c.one.ensures
    (same_join (InRun s c.plus.result) (Sums (InRun s a) (InRun s b)) (Sums (Has c.args.self.now) (Has c.args.o.now)) c.plus.ensures.sums
    (sums_alike (InRun s a) (Has c.args.self.now) (InRun s b) (Has c.args.o.now) c.in-Some-Some.ensures.members c.in-Some-Some.ensures'.members))

pub moved-requires : goal.moved-requires
moved-requires c = λ m h. c.requires m ((sums_only_right c.in-Some.n (Has c.args.self.now) (Has c.args.o.now) c.in-Some.ensures.member m).0 h)

pub returns-in-Some : goal.returns-in-Some
returns-in-Some c =
    let self = Has c.args.self.now in
    let other = Has c.args.o.now in
    done c.moved.result (Sums (Only c.in-Some.n) self) (Sums self other) (sums_only_right c.in-Some.n self other c.in-Some.ensures.member) c.moved.ensures

pub moved-requires-in-Some-single : goal.moved-requires-in-Some-single
moved-requires-in-Some-single c = λ m h. c.requires m ((sums_only c.in-Some-single.n (Has c.args.o.now) (Has c.args.self.now) c.in-Some-single.ensures.member m).0 h)

pub returns-in-Some-single : goal.returns-in-Some-single
returns-in-Some-single c =
    let self = Has c.args.self.now in
    let other = Has c.args.o.now in
    done c.moved-in-Some-single.result (Sums (Only c.in-Some-single.n) other) (Sums self other) (sums_only c.in-Some-single.n other self c.in-Some-single.ensures.member) c.moved-in-Some-single.ensures
