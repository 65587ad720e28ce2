use Rattle.std.proofs.Common.{◌∷◌, get_or, inl, inr}
use Rattle.std.proofs.lemmas.List.{take_all}
use Rattle.std.proofs.lemmas.List.Elements.{All-get_or}
use Rattle.bit_length.specs.Runs.{IsRun, InSome}
use Rattle.bit_length.proofs.ListedLemmas.{listed_first, listed_run}
use Rattle.bit_length.proofs.MovedLemmas.{short_run}
use Rattle.bit_length.proofs.SetLemmas.{no_run, InSome-at}
use Rattle.bit_length.proofs.listed.members_of.Goals as goal

pub moved-requires-clause-short : goal.moved-requires-clause-short
moved-requires-clause-short c =
    let s = c.args.step in
    let last = c.args.last.now in
    short_run c.args.by s last (InSome s (last ∷ c.args.others.now)) c.requires.last (λ n h. inl h) c.requires.short

pub loop-run-init : goal.loop-run-init
loop-run-init c =
    listed_first c.push_members.new.members.items c.args.by c.args.step c.args.last.now c.moved.result c.moved.ensures.moved (rw c.in_ok-members.ensures.items at c.in_ok-push_members.ensures)

pub moved-requires-in-loop-run-clause-short : goal.moved-requires-in-loop-run-clause-short
moved-requires-in-loop-run-clause-short c =
    let s = c.args.step in
    let others = c.args.others.now in
    let i = c.loop-run.run-index in
    short_run c.args.by s (get_or others i no_run) (InSome s (c.args.last.now ∷ others)) (All-get_or (IsRun s) others i no_run c.loop-run-test.true c.requires.others) (λ n h. inr (InSome-at s others i n c.loop-run-test.true h)) c.requires.short

pub loop-run-preserved : goal.loop-run-preserved
loop-run-preserved c =
    listed_run c.args.by c.args.step c.args.others.now c.args.last.now c.moved-in-loop-run.result c.loop-run.run-index c.loop-run.members.items c.push_members-in-loop-run.new.members.items c.loop-run-test.true c.moved-in-loop-run.ensures.moved c.loop-run.invariant c.in_ok-push_members-2.ensures

pub returns : goal.returns
returns c =
    rw (take_all c.loop-run.run-index c.args.others.now c.loop-run-test.false) at c.loop-run.invariant
