use Rattle.std.proofs.Common.{◌≡◌, ◌+◌, subst, arith}
use Rattle.bit_length.proofs.MemberLemmas.{Adds-none, Adds-push, Adds-same}
use Rattle.bit_length.proofs.RunLemmas.{InRunBelow, below_none, below_single, below_all}
use Rattle.bit_length.specs.Runs.{InRun, Adds}
use Rattle.bit_length.proofs.parts.push_singles.Goals as goal

pub loop-quotient-init : goal.loop-quotient-init
loop-quotient-init c =
    Adds-none c.args.wide c.args.parts.now.items (InRunBelow c.args.step c.args.run.now.first c.args.run.now) (below_none c.args.step c.args.run.now)

pub loop-quotient-preserved : goal.loop-quotient-preserved
loop-quotient-preserved c =
    let s = c.args.step in
    let j = c.loop-quotient.quotient in
    let r = c.args.run.now in
    rw c.in_ok-push.ensures.items (Adds-push c.args.wide c.args.parts.now.items c.loop-quotient.parts.items c.single.result (InRunBelow s j r) (InRunBelow s (j + 1) r) c.loop-quotient.invariant c.single.ensures.run (below_single s j c.args.wide c.member.result r c.single.result (omega arith) c.single.ensures.member c.member.ensures.value))

pub returns : goal.returns
returns c =
    Adds-same c.args.wide c.args.parts.now.items c.loop-quotient.parts.items (InRunBelow c.args.step (c.args.run.now.last + 1) c.args.run.now) (InRun c.args.step c.args.run.now) (let e : c.loop-quotient.quotient ≡ c.args.run.now.last + 1 = omega arith in subst (λ j. Adds c.args.wide c.args.parts.now.items c.loop-quotient.parts.items (InRunBelow c.args.step j c.args.run.now)) e c.loop-quotient.invariant) (below_all c.args.step c.args.run.now)
