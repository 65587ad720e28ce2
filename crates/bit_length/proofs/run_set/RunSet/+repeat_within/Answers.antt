use Rattle.std.proofs.Common.{◌+◌, ◌*◌, ◌/◌, ◌↔◌, arith, subst, sym}
use Rattle.bit_length.specs.Lengths.{Has, Sums, Repeats}
use Rattle.bit_length.specs.Runs.{InRun}
use Rattle.bit_length.proofs.SetLemmas.{done, same_join, sums_alike, repeats_alike, greatest_of}
use Rattle.bit_length.proofs.RepeatLemmas.{repeats_sum, repeats_more, short_less, greatest_repeat}
use Rattle.bit_length.proofs.run_set.RunSet.+repeat_within.Goals as goal

pub times-requires-clause-short : goal.times-requires-clause-short
times-requires-clause-short t c =
    let s = c.self.inside.step in
    let run = c.in-Some.run' in
    let greatest = run.residue + s * run.last in
    let most = greatest_repeat (InRun s run) greatest (greatest_of s run c.in-Some.ensures.run) c.args.n in
    c.requires (greatest * c.args.n) ((repeats_alike (InRun s run) (Has c.args.self.now) c.in-Some.ensures.members c.args.n (greatest * c.args.n)).0 most.0)

pub returns-in-Some : goal.returns-in-Some
returns-in-Some t c =
    let s = c.self.inside.step in
    let run = c.in-Some.run' in
    same_join (Has c.one.result) (InRun s c.times.result) (Repeats (Has c.args.self.now) c.args.n) c.one.ensures
    (same_join (InRun s c.times.result) (Repeats (InRun s run) c.args.n) (Repeats (Has c.args.self.now) c.args.n) c.times.ensures.repeats
    (repeats_alike (InRun s run) (Has c.args.self.now) c.in-Some.ensures.members c.args.n))

pub returns-then-n-eq0 : goal.returns-then-n-eq0
returns-then-n-eq0 t c = λ k.
    subst (λ m. Has c.of.result k ↔ Repeats (Has c.args.self.now) m k) (sym c.if-n-eq0.true) (c.of.ensures k)

pub repeat_within-requires : goal.repeat_within-requires
repeat_within-requires t c =
    (omega arith, short_less (Has c.args.self.now) (c.args.n / 2) c.args.n (omega arith) c.requires)

pub sum_within-requires : goal.sum_within-requires
sum_within-requires t c = λ k h.
    let S = Has c.args.self.now in
    let m = c.args.n / 2 in
    let half = Has c.in_ok-half.half in
    let w = (sums_alike half (Repeats S m) half (Repeats S m) c.in_ok-half.ensures c.in_ok-half.ensures k).0 h in
    short_less S (m + m) c.args.n (omega arith) c.requires k ((repeats_sum S m m (m + m) (omega arith) k).0 w)

pub returns-then-n-eq0-2 : goal.returns-then-n-eq0-2
returns-then-n-eq0-2 t c =
    let S = Has c.args.self.now in
    let m = c.args.n / 2 in
    let half = Has c.in_ok-half.half in
    same_join (Has c.in_ok-both.both) (Sums half half) (Repeats S c.args.n) c.in_ok-both.ensures (same_join (Sums half half) (Sums (Repeats S m) (Repeats S m)) (Repeats S c.args.n) (sums_alike half (Repeats S m) half (Repeats S m) c.in_ok-half.ensures c.in_ok-half.ensures) (repeats_sum S m m c.args.n (omega arith)))

pub sum_within-requires-else-n-eq0-2 : goal.sum_within-requires-else-n-eq0-2
sum_within-requires-else-n-eq0-2 t c = λ k h.
    let S = Has c.args.self.now in
    let m = c.args.n / 2 in
    let half = Has c.in_ok-half.half in
    let both = same_join (Has c.in_ok-both.both) (Sums half half) (Repeats S (m + m)) c.in_ok-both.ensures (same_join (Sums half half) (Sums (Repeats S m) (Repeats S m)) (Repeats S (m + m)) (sums_alike half (Repeats S m) half (Repeats S m) c.in_ok-half.ensures c.in_ok-half.ensures) (repeats_sum S m m (m + m) (omega arith))) in
    c.requires k ((repeats_more S (m + m) c.args.n (omega arith) k).0 ((sums_alike S S (Has c.in_ok-both.both) (Repeats S (m + m)) (λ n. (λ x. x, λ x. x)) both k).0 h))

pub returns : goal.returns
returns t c =
    let S = Has c.args.self.now in
    let m = c.args.n / 2 in
    let half = Has c.in_ok-half.half in
    let both = same_join (Has c.in_ok-both.both) (Sums half half) (Repeats S (m + m)) c.in_ok-both.ensures (same_join (Sums half half) (Sums (Repeats S m) (Repeats S m)) (Repeats S (m + m)) (sums_alike half (Repeats S m) half (Repeats S m) c.in_ok-half.ensures c.in_ok-half.ensures) (repeats_sum S m m (m + m) (omega arith))) in
    done c.sum_within-else-n-eq0-2.result (Sums S (Has c.in_ok-both.both)) (Repeats S c.args.n) (same_join (Sums S (Has c.in_ok-both.both)) (Sums S (Repeats S (m + m))) (Repeats S c.args.n) (sums_alike S S (Has c.in_ok-both.both) (Repeats S (m + m)) (λ n. (λ x. x, λ x. x)) both) (repeats_more S (m + m) c.args.n (omega arith))) c.sum_within-else-n-eq0-2.ensures
