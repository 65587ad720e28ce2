use Rattle.std.proofs.Common.{◌≡◌, ◌+◌, subst, arith, refl}
use Rattle.bit_length.specs.Lengths.{Has, Same, Sums, Repeats}
use Rattle.bit_length.proofs.SetLemmas.{same_join, sums_alike}
use Rattle.bit_length.proofs.RepeatLemmas.{repeats_more, short_less}
use Rattle.bit_length.proofs.run_set.RunSet.repeat_from.Goals as goal

pub sum_within-requires : goal.sum_within-requires
sum_within-requires c = λ k h.
    let S = Has c.args.self.now in
    let i = c.loop.counter in
    let sums = Has c.loop.sums in
    let more = (repeats_more S i (i + 1) refl k).0 ((sums_alike S S sums (Repeats S i) (λ n. (λ x. x, λ x. x)) c.loop.invariant k).0 h) in
    short_less S (i + 1) c.args.n (omega arith) c.requires.short k more

pub loop-preserved : goal.loop-preserved
loop-preserved c =
    let S = Has c.args.self.now in
    let i = c.loop.counter in
    let sums = Has c.loop.sums in
    let new = Has c.in_ok-sums.sums in
    same_join new (Sums S sums) (Repeats S (i + 1)) c.in_ok-sums.ensures
    (same_join (Sums S sums) (Sums S (Repeats S i)) (Repeats S (i + 1)) (sums_alike S S sums (Repeats S i) (λ n. (λ x. x, λ x. x)) c.loop.invariant) (repeats_more S i (i + 1) refl))

pub returns : goal.returns
returns c =
    let e : c.loop.counter ≡ c.args.n = omega arith in
    subst (λ i. Same (Has c.loop.sums) (Repeats (Has c.args.self.now) i)) e c.loop.invariant
