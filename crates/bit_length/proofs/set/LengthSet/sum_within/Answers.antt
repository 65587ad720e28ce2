use Rattle.std.proofs.Common.{◌+◌, arith}
use Rattle.bit_length.specs.Lengths.{Has, Only, Sums}
use Rattle.bit_length.specs.Moved.{Moved}
use Rattle.bit_length.proofs.SetLemmas.{done, same_join, sums_turned}
use Rattle.bit_length.proofs.MovedLemmas.{sums_beside, sums_short, sums_are, short_same}
use Rattle.bit_length.proofs.set.LengthSet.sum_within.Goals as goal

pub shifted-requires : goal.shifted-requires
shifted-requires c = λ m (a, b, x, y, e). c.requires m (a, b, x, (c.in-Some.ensures b).0 y, e)

pub returns-in-Some : goal.returns-in-Some
returns-in-Some c =
    let own = Has c.args.self.now in
    let other = Has c.args.o.now in
    let one = Only c.in-Some.n in
    done c.shifted.result (Sums own one) (Sums own other) (sums_beside own one other c.in-Some.ensures) c.shifted.ensures

pub shifted-requires-in-Some-number_beside : goal.shifted-requires-in-Some-number_beside
shifted-requires-in-Some-number_beside c = λ m (a, b, x, y, e). c.requires m (b, a, (c.in-Some-number_beside.ensures b).0 y, x, omega arith)

pub returns-in-Some-number_beside : goal.returns-in-Some-number_beside
returns-in-Some-number_beside c =
    let own = Has c.args.self.now in
    let other = Has c.args.o.now in
    let one = Only c.in-Some-number_beside.n in
    done c.shifted-in-Some-number_beside.result (Sums other one) (Sums own other) (same_join (Sums other one) (Sums other own) (Sums own other) (sums_beside other one own c.in-Some-number_beside.ensures) (sums_turned other own)) c.shifted-in-Some-number_beside.ensures

pub sum_within-requires : goal.sum_within-requires
sum_within-requires c = rw (c.get.ensures.value, c.get-2.ensures.value) (λ n h.
    let l = sums_short c.self.inside.shift c.o.inside.shift c.self.inside.runs c.o.inside.runs c.args.self.now c.args.o.now c.self.view_is c.o.view_is c.requires n h in omega arith)

pub overflow_add-self-inside : goal.overflow_add-self-inside
overflow_add-self-inside c =
    let (m, h) = c.get.ensures.some in
    let (n, g) = c.get-2.ensures.some in
    let k = c.self.invariant m h in
    let j = c.o.invariant n g in
    omega arith

pub at-requires : goal.at-requires
at-requires c =
    let same = rw (c.get.ensures.value, c.get-2.ensures.value) at c.in_ok-runs.ensures in
    short_same (c.self.inside.shift + c.o.inside.shift) (Has c.in_ok-runs.runs) (Sums (Has c.self.inside.runs) (Has c.o.inside.runs)) same (sums_short c.self.inside.shift c.o.inside.shift c.self.inside.runs c.o.inside.runs c.args.self.now c.args.o.now c.self.view_is c.o.view_is c.requires)

pub returns : goal.returns
returns c =
    let k = c.self.inside.shift in
    let j = c.o.inside.shift in
    let runs = Has c.in_ok-runs.runs in
    let same = rw (c.get.ensures.value, c.get-2.ensures.value) at c.in_ok-runs.ensures in
    done c.at.result (Moved (k + j) runs) (Sums (Has c.args.self.now) (Has c.args.o.now)) (sums_are k j runs c.self.inside.runs c.o.inside.runs c.args.self.now c.args.o.now c.self.view_is c.o.view_is same) c.at.ensures
