use Rattle.std.proofs.Common.{inl}
use Rattle.std.proofs.lemmas.List.Elements.{All-take, All-drop}
use Rattle.bit_length.specs.Runs.{IsRun, InRun}
use Rattle.bit_length.proofs.SumLemmas.{moved_runs, of_below, of_above, sum_short}
use Rattle.bit_length.proofs.sums.moved.Goals as goal

pub push_sums-requires-clause-runs : goal.push_sums-requires-clause-runs
push_sums-requires-clause-runs c =
    rw c.split_at.ensures.back (All-drop (IsRun c.args.step) c.behind_last-behind.result c.args.others.now c.requires.others)

pub push_sums-requires-clause-short : goal.push_sums-requires-clause-short
push_sums-requires-clause-short c =
    rw c.split_at.ensures.back (λ m n x y. c.requires.short m n x (of_above c.args.step c.behind_last-behind.result c.args.others.now c.args.last.now n y))

pub plus-requires-clause-short : goal.plus-requires-clause-short
plus-requires-clause-short c =
    sum_short c.args.step c.args.one.now c.args.last.now (λ m n x y. c.requires.short m n x (inl y)) c.requires.one.1 c.requires.last.1

pub push_sums-requires-2-clause-runs : goal.push_sums-requires-2-clause-runs
push_sums-requires-2-clause-runs c =
    rw c.split_at.ensures.front (All-take (IsRun c.args.step) c.behind_last-behind.result c.args.others.now c.requires.others)

pub push_sums-requires-2-clause-short : goal.push_sums-requires-2-clause-short
push_sums-requires-2-clause-short c =
    rw c.split_at.ensures.front (λ m n x y. c.requires.short m n x (of_below c.args.step c.behind_last-behind.result c.args.others.now c.args.last.now n y))

pub returns : goal.returns
returns c =
    moved_runs c.args.step (InRun c.args.step c.args.one.now) c.behind_last-behind.result c.args.others.now c.in_ok-runs.runs.items c.push_sums.new.sums.items c.push.new.self.items c.push_sums-2.new.sums.items
    c.split_at.result.0.now c.split_at.result.1.now c.args.last.now c.plus.result c.in_ok-runs.ensures.items c.split_at.ensures.front c.split_at.ensures.back
    c.in_ok-push_sums.ensures c.in_ok-push.ensures.items c.plus.ensures.run c.plus.ensures.sums c.in_ok-push_sums-2.ensures
