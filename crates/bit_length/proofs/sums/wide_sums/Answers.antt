use Rattle.std.proofs.Common.{◌+◌, ◌*◌, take, get_or, []}
use Rattle.std.proofs.lemmas.List.{take_all}
use Rattle.std.proofs.lemmas.List.Elements.{All-get_or}
use Rattle.bit_length.specs.Lengths.{Sums}
use Rattle.bit_length.specs.Runs.{IsRun, InRun, InSome}
use Rattle.bit_length.proofs.SetLemmas.{no_run, InSome-at}
use Rattle.bit_length.proofs.MemberLemmas.{Adds-push, Adds-none}
use Rattle.bit_length.proofs.SumLemmas.{wide_short, sums_more, either_same, from_nothing}
use Rattle.bit_length.proofs.sums.wide_sums.Goals as goal

pub loop-run-init : goal.loop-run-init
loop-run-init c =
    rw c.in_ok-sums.ensures.items (Adds-none c.args.step [] (Sums (InRun c.args.step c.args.one.now) (InSome (c.args.step * c.args.many) [])) (λ n (a, b, x, y, e). y))

pub plus_wide-requires-clause-short : goal.plus_wide-requires-clause-short
plus_wide-requires-clause-short c =
    let w = c.args.step * c.args.many in
    let runs = c.args.runs.now in
    let i = c.loop-run.run-index in
    let lt = c.loop-run-test.true in
    wide_short c.args.step w c.args.one.now (get_or runs i no_run) (λ m n x y. c.requires.short m n x (InSome-at w runs i n lt y)) c.requires.one.1 (All-get_or (IsRun w) runs i no_run lt c.requires.runs).1

pub loop-run-preserved : goal.loop-run-preserved
loop-run-preserved c =
    let s = c.args.step in
    let w = c.args.step * c.args.many in
    let one = InRun s c.args.one.now in
    let runs = c.args.runs.now in
    let i = c.loop-run.run-index in
    let before = Sums one (InSome w (take i runs)) in
    let after = Sums one (InSome w (take (i + 1) runs)) in
    rw c.in_ok-push.ensures.items (Adds-push s [] c.loop-run.sums.items c.plus_wide.result before after c.loop-run.invariant c.plus_wide.ensures.run
    (either_same (InRun s c.plus_wide.result) before after (Sums one (InRun w (get_or runs i no_run))) c.plus_wide.ensures.sums (sums_more w one runs i c.loop-run-test.true)))

pub returns : goal.returns
returns c =
    from_nothing c.args.step c.loop-run.sums.items (Sums (InRun c.args.step c.args.one.now) (InSome (c.args.step * c.args.many) c.args.runs.now)) (rw (take_all c.loop-run.run-index c.args.runs.now c.loop-run-test.false) at c.loop-run.invariant)
