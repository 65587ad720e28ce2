use Rattle.std.proofs.Common.{◌+◌, take, get_or, []}
use Rattle.std.proofs.lemmas.List.{take_all}
use Rattle.bit_length.specs.Lengths.{Sums, Joins}
use Rattle.bit_length.specs.Runs.{InRun, InSome}
use Rattle.bit_length.proofs.SetLemmas.{no_run, InSome-at}
use Rattle.bit_length.proofs.MemberLemmas.{Adds-join, Adds-none, Adds-same}
use Rattle.bit_length.proofs.SumLemmas.{sums_more_left, from_nothing}
use Rattle.bit_length.proofs.sums.sums.Goals as goal

pub loop-run-init : goal.loop-run-init
loop-run-init c =
    rw c.in_ok-sums.ensures.items (Adds-none c.args.step [] (Sums (InSome c.args.step []) (InSome c.args.step c.args.b.now)) (λ n (a, b, x, y, e). x))

pub push_sums-requires-clause-short : goal.push_sums-requires-clause-short
push_sums-requires-clause-short c =
    λ m n x y. c.requires.short m n (InSome-at c.args.step c.args.a.now c.loop-run.run-index m c.loop-run-test.true x) y

pub loop-run-preserved : goal.loop-run-preserved
loop-run-preserved c =
    let s = c.args.step in
    let a = c.args.a.now in
    let b = c.args.b.now in
    let i = c.loop-run.run-index in
    Adds-same s [] c.push_sums.new.sums.items (Joins (Sums (InSome s (take i a)) (InSome s b)) (Sums (InRun s (get_or a i no_run)) (InSome s b))) (Sums (InSome s (take (i + 1) a)) (InSome s b)) (Adds-join s [] c.loop-run.sums.items c.push_sums.new.sums.items (Sums (InSome s (take i a)) (InSome s b)) (Sums (InRun s (get_or a i no_run)) (InSome s b)) c.loop-run.invariant c.in_ok-push_sums.ensures) (λ n. let w = sums_more_left s (InSome s b) a i c.loop-run-test.true n in (w.1, w.0))

pub returns : goal.returns
returns c =
    from_nothing c.args.step c.loop-run.sums.items (Sums (InSome c.args.step c.args.a.now) (InSome c.args.step c.args.b.now)) (rw (take_all c.loop-run.run-index c.args.a.now c.loop-run-test.false) at c.loop-run.invariant)
