use Rattle.std.proofs.Common.{◌+◌, take, get_or, []}
use Rattle.std.proofs.lemmas.List.{take_all}
use Rattle.bit_length.specs.Lengths.{Pads}
use Rattle.bit_length.specs.Runs.{InRun, InSome}
use Rattle.bit_length.proofs.SetLemmas.{no_run}
use Rattle.bit_length.proofs.MemberLemmas.{Adds-push, Adds-none}
use Rattle.bit_length.proofs.SumLemmas.{pad_short, pads_more, either_same, from_nothing}
use Rattle.bit_length.proofs.sums.pads.Goals as goal

pub loop-run-init : goal.loop-run-init
loop-run-init c =
    rw c.in_ok-pads.ensures.items (Adds-none c.args.step [] (Pads (InSome c.args.step []) c.args.to) (λ n (a, x, e). x))

pub padded-requires-clause-short : goal.padded-requires-clause-short
padded-requires-clause-short c =
    pad_short c.args.step c.args.to c.args.runs.now c.loop-run.run-index c.loop-run-test.true c.requires.runs c.requires.short

pub loop-run-preserved : goal.loop-run-preserved
loop-run-preserved c =
    let s = c.args.step in
    let to = c.args.to in
    let runs = c.args.runs.now in
    let i = c.loop-run.run-index in
    rw c.in_ok-push.ensures.items (Adds-push s [] c.loop-run.pads.items c.padded.result (Pads (InSome s (take i runs)) to) (Pads (InSome s (take (i + 1) runs)) to) c.loop-run.invariant c.padded.ensures.run (either_same (InRun s c.padded.result) (Pads (InSome s (take i runs)) to) (Pads (InSome s (take (i + 1) runs)) to) (Pads (InRun s (get_or runs i no_run)) to) c.padded.ensures.pads (pads_more s to runs i c.loop-run-test.true)))

pub returns : goal.returns
returns c =
    from_nothing c.args.step c.loop-run.pads.items (Pads (InSome c.args.step c.args.runs.now) c.args.to) (rw (take_all c.loop-run.run-index c.args.runs.now c.loop-run-test.false) at c.loop-run.invariant)
