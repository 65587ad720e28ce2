use Rattle.std.proofs.Common.{subst, sym, arith}
use Rattle.bit_length.specs.Lengths.{Has, Same, Pads, padded}
use Rattle.bit_length.specs.Moved.{Moved, moved}
use Rattle.bit_length.proofs.SetLemmas.{done, same_join, pads_alike}
use Rattle.bit_length.proofs.MovedLemmas.{has_moved, moved_value, moved_same, moved_only, unmoved, multiples_of, pads_by_multiple, pads_by_members, short_at, short_same}
use Rattle.bit_length.proofs.set.LengthSet.pad_within.Goals as goal

pub overflow_add-result : goal.overflow_add-result
overflow_add-result c =
    let (m, h) = c.get-runs.ensures.some in
    let short = c.self.invariant m h in
    omega arith

pub invariant_of-result : goal.invariant_of-result
invariant_of-result c =
    let k = c.self.inside.shift in
    let xs = c.self.inside.runs in
    let to = c.args.to in
    let multiples = multiples_of (Has xs) c.divisor.result to c.if-divisor-to-eq0.true c.divisor.ensures.divides in
    rw c.in_ok-copy.ensures.value (short_at (padded to k) (Has xs) (Pads (Has c.args.self.now) to) (pads_by_members k to xs c.args.self.now c.self.view_is c.requires.positive multiples) c.requires.short)

pub returns-then-divisor-to-eq0 : goal.returns-then-divisor-to-eq0
returns-then-divisor-to-eq0 c =
    let k = c.self.inside.shift in
    let xs = c.self.inside.runs in
    let to = c.args.to in
    let pads = Pads (Has c.args.self.now) to in
    let multiples = multiples_of (Has xs) c.divisor.result to c.if-divisor-to-eq0.true c.divisor.ensures.divides in
    subst (λ ys. Same (Has (moved (padded to k) ys)) pads) (sym c.in_ok-copy.ensures.value) (same_join (Has (moved (padded to k) xs)) (Moved (padded to k) (Has xs)) pads (has_moved (padded to k) xs) (pads_by_members k to xs c.args.self.now c.self.view_is c.requires.positive multiples))

pub pad_within-requires-clause-short : goal.pad_within-requires-clause-short
pad_within-requires-clause-short c =
    let k = c.self.inside.shift in
    let xs = c.self.inside.runs in
    let to = c.args.to in
    rw c.get-runs.ensures.value (λ n h.
    let l = short_at k (Pads (Has xs) to) (Pads (Has c.args.self.now) to) (pads_by_multiple k to xs c.args.self.now c.self.view_is c.requires.positive c.if-self-to-eq0.true) c.requires.short n h in omega arith)

pub at-requires : goal.at-requires
at-requires c =
    let k = c.self.inside.shift in
    let xs = c.self.inside.runs in
    let to = c.args.to in
    let same = rw c.get-runs.ensures.value at c.in_ok-pad_within.ensures in
    short_same k (Has c.in_ok-pad_within.field-0) (Pads (Has xs) to) same (short_at k (Pads (Has xs) to) (Pads (Has c.args.self.now) to) (pads_by_multiple k to xs c.args.self.now c.self.view_is c.requires.positive c.if-self-to-eq0.true) c.requires.short)

pub overflow_mul-result : goal.overflow_mul-result
overflow_mul-result c =
    let (m, h) = c.get-runs.ensures.some in
    let short = c.self.invariant m h in
    omega arith

pub returns-then-self-to-eq0 : goal.returns-then-self-to-eq0
returns-then-self-to-eq0 c =
    let k = c.self.inside.shift in
    let xs = c.self.inside.runs in
    let to = c.args.to in
    let result = Has c.in_ok-pad_within.field-0 in
    let pads = Pads (Has c.args.self.now) to in
    let same = rw c.get-runs.ensures.value at c.in_ok-pad_within.ensures in
    done c.at.result (Moved k result) pads (same_join (Moved k result) (Moved k (Pads (Has xs) to)) pads (moved_same k result (Pads (Has xs) to) same) (pads_by_multiple k to xs c.args.self.now c.self.view_is c.requires.positive c.if-self-to-eq0.true)) c.at.ensures

pub moved-requires : goal.moved-requires
moved-requires c = rw c.get-runs.ensures.value (λ m h.
    let (n, x, e) = (moved_only c.self.inside.shift (Has c.self.inside.runs) m).0 h in
    let l = c.self.invariant n x in omega arith)

pub pad_within-requires-2-clause-short : goal.pad_within-requires-2-clause-short
pad_within-requires-2-clause-short c =
    let result = Has c.in_ok-moved.field-0 in
    let moved = rw c.get-runs.ensures.value at c.in_ok-moved.ensures in
    let same = moved_value c.self.inside.shift c.self.inside.runs c.args.self.now result c.self.view_is moved in
    λ n h. c.requires.short n ((pads_alike result (Has c.args.self.now) c.args.to same n).0 h)

pub at-requires-2 : goal.at-requires-2
at-requires-2 c =
    let result = Has c.in_ok-moved.field-0 in
    let moved = rw c.get-runs.ensures.value at c.in_ok-moved.ensures in
    let same = moved_value c.self.inside.shift c.self.inside.runs c.args.self.now result c.self.view_is moved in
    λ n h.
    let l = c.requires.short n ((pads_alike result (Has c.args.self.now) c.args.to same n).0 ((c.in_ok-pad_within-2.ensures n).0 h)) in
    omega arith

pub returns : goal.returns
returns c =
    let to = c.args.to in
    let v = Has c.args.self.now in
    let result = Has c.in_ok-moved.field-0 in
    let padded = Has c.in_ok-pad_within-2.field-0 in
    let moved = rw c.get-runs.ensures.value at c.in_ok-moved.ensures in
    let same = moved_value c.self.inside.shift c.self.inside.runs c.args.self.now result c.self.view_is moved in
    done c.at-2.result (Moved 0 padded) (Pads v to) (same_join (Moved 0 padded) padded (Pads v to) (unmoved padded) (same_join padded (Pads result to) (Pads v to) c.in_ok-pad_within-2.ensures (pads_alike result v to same))) c.at-2.ensures
