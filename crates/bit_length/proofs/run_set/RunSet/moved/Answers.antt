use Rattle.std.proofs.Common.{◌+◌, ◌∷◌, refl, arith}
use Rattle.bit_length.specs.Lengths.{Has, Only, Sums}
use Rattle.bit_length.specs.Runs.{InRun, InSome}
use Rattle.bit_length.proofs.SetLemmas.{done, some_of, sums_alike, some_sum, some_member, same_join, value_parts, last_run, other_runs}
use Rattle.bit_length.proofs.run_set.RunSet.moved.Goals as goal

pub single-one-requires-clause-short : goal.single-one-requires-clause-short
single-one-requires-clause-short c =
    let (m, has) = some_member c.self.inside.step c.self.inside.others.items c.self.inside.last c.args.self.now c.self.invariant c.self.view_is in
    let l = c.requires (c.args.n + m) (c.args.n, m, refl, has, refl) in
    omega arith

pub moved-requires-clause-others : goal.moved-requires-clause-others
moved-requires-clause-others c =
    rw c.as_slice.ensures.value (other_runs c.self.inside.step c.self.inside.others.items c.self.inside.last c.self.invariant)

pub moved-requires-clause-last : goal.moved-requires-clause-last
moved-requires-clause-last c =
    last_run c.self.inside.step c.self.inside.others.items c.self.inside.last c.self.invariant

pub moved-requires-clause-short : goal.moved-requires-clause-short
moved-requires-clause-short c =
    let value = value_parts c.self.inside.step c.self.inside.others.items c.self.inside.last c.args.self.now c.self.invariant c.self.view_is in
    rw c.as_slice.ensures.value (λ m n x y. c.requires (m + n) (m, n, (c.single-one.ensures.member m).0 x, (value n).1 y, refl))

pub merged-requires-clause-some : goal.merged-requires-clause-some
merged-requires-clause-some c =
    let s = c.self.inside.step in
    let others = c.self.inside.others.items in
    let last = c.self.inside.last in
    let one = c.single-one.result in
    let (n, has) = some_member s others last c.args.self.now c.self.invariant c.self.view_is in
    let value = value_parts s others last c.args.self.now c.self.invariant c.self.view_is in
    some_of s c.in_ok-runs.runs.items (Sums (InRun s one) (InSome s (last ∷ others))) (rw c.as_slice.ensures.value at c.in_ok-runs.ensures)
    (some_sum (InRun s one) (InSome s (last ∷ others)) (c.args.n, (c.single-one.ensures.member c.args.n).1 refl) (n, (value n).0 has))

pub returns : goal.returns
returns c =
    let s = c.self.inside.step in
    let others = c.self.inside.others.items in
    let last = c.self.inside.last in
    let one = c.single-one.result in
    let value = value_parts s others last c.args.self.now c.self.invariant c.self.view_is in
    let runs = rw c.as_slice.ensures.value at c.in_ok-runs.ensures in
    done c.merged.result (InSome s c.in_ok-runs.runs.items) (Sums (Only c.args.n) (Has c.args.self.now))
    (same_join (InSome s c.in_ok-runs.runs.items) (Sums (InRun s one) (InSome s (last ∷ others))) (Sums (Only c.args.n) (Has c.args.self.now)) runs.same
    (sums_alike (InRun s one) (Only c.args.n) (InSome s (last ∷ others)) (Has c.args.self.now) c.single-one.ensures.member (λ k. let w = value k in (w.1, w.0)))) c.merged.ensures
