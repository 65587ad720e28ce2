use Rattle.std.proofs.Common.{◌≡◌, ◌+◌, ◌*◌, subst, arith}
use Rattle.bit_length.specs.Lengths.{Has, Same, Joins}
use Rattle.bit_length.specs.Runs.{InRun}
use Rattle.bit_length.proofs.RunLemmas.{InRunBelow, below_none, below_more, below_all}
use Rattle.bit_length.proofs.ListedLemmas.{listed_none, listed_one, listed_same}
use Rattle.bit_length.proofs.listed.push_members.Goals as goal

pub loop-quotient-init : goal.loop-quotient-init
loop-quotient-init c =
    listed_none c.args.members.now.items (InRunBelow c.args.step c.args.run.now.first c.args.run.now) (below_none c.args.step c.args.run.now)

pub loop-quotient-preserved : goal.loop-quotient-preserved
loop-quotient-preserved c =
    let s = c.args.step in
    let j = c.loop-quotient.quotient in
    let r = c.args.run.now in
    rw (c.in_ok-push.ensures.items, c.member.ensures.value) (listed_one c.args.members.now.items c.loop-quotient.members.items (r.residue + s * j) (InRunBelow s j r) (InRunBelow s (j + 1) r) c.loop-quotient.invariant (λ n. below_more s j r n (omega arith)))

pub returns : goal.returns
returns c =
    let s = c.args.step in
    let r = c.args.run.now in
    let old = c.args.members.now.items in
    let new = c.loop-quotient.members.items in
    let e : c.loop-quotient.quotient ≡ r.last + 1 = omega arith in
    listed_same old new (InRunBelow s (r.last + 1) r) (InRun s r) (below_all s r) (subst (λ j. Same (Has new) (Joins (Has old) (InRunBelow s j r))) e c.loop-quotient.invariant)
