use Rattle.std.proofs.Common.{◌+◌, take, get_or, []}
use Rattle.std.proofs.lemmas.List.{take_all}
use Rattle.std.proofs.lemmas.List.Elements.{All-get_or}
use Rattle.bit_length.specs.Lengths.{Sums}
use Rattle.bit_length.specs.Runs.{IsRun, InRun, InSome}
use Rattle.bit_length.proofs.SetLemmas.{no_run, InSome-at}
use Rattle.bit_length.proofs.MemberLemmas.{Adds-push, Adds-none}
use Rattle.bit_length.proofs.SumLemmas.{sum_short, sums_more, either_same}
use Rattle.bit_length.proofs.sums.push_sums.Goals as goal

pub loop-run-init : goal.loop-run-init
loop-run-init c =
    Adds-none c.args.step c.args.sums.now.items (Sums (InRun c.args.step c.args.one.now) (InSome c.args.step [])) (λ n (a, b, x, y, e). y)

pub plus-requires-clause-short : goal.plus-requires-clause-short
plus-requires-clause-short c =
    let s = c.args.step in
    let runs = c.args.runs.now in
    let i = c.loop-run.run-index in
    let lt = c.loop-run-test.true in
    sum_short s c.args.one.now (get_or runs i no_run) (λ m n x y. c.requires.short m n x (InSome-at s runs i n lt y)) c.requires.one.1 (All-get_or (IsRun s) runs i no_run lt c.requires.runs).1

pub loop-run-preserved : goal.loop-run-preserved
loop-run-preserved c =
    let s = c.args.step in
    let one = c.args.one.now in
    let runs = c.args.runs.now in
    let i = c.loop-run.run-index in
    rw c.in_ok-push.ensures.items (Adds-push s c.args.sums.now.items c.loop-run.sums.items c.plus.result (Sums (InRun s one) (InSome s (take i runs))) (Sums (InRun s one) (InSome s (take (i + 1) runs))) c.loop-run.invariant c.plus.ensures.run (either_same (InRun s c.plus.result) (Sums (InRun s one) (InSome s (take i runs))) (Sums (InRun s one) (InSome s (take (i + 1) runs))) (Sums (InRun s one) (InRun s (get_or runs i no_run))) c.plus.ensures.sums (sums_more s (InRun s one) runs i c.loop-run-test.true)))

pub returns : goal.returns
returns c =
    rw (take_all c.loop-run.run-index c.args.runs.now c.loop-run-test.false) at c.loop-run.invariant
