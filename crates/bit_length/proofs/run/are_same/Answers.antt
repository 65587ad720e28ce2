use Rattle.std.proofs.Common.{◌∙◌, sym, arith}
use Rattle.std.proofs.lemmas.List.{take_all}
use Rattle.bit_length.proofs.SameLemmas.{same_more}
use Rattle.bit_length.proofs.run.are_same.Goals as goal

pub loop-at-preserved : goal.loop-at-preserved
loop-at-preserved c =
    same_more c.args.runs.now c.args.others.now c.loop-at.at c.loop-at-test.true c.if-runs-others.false c.loop-at.invariant (sym c.is.ensures ∙ c.if-not-is.false)

pub returns : goal.returns
returns c = λ e.
    let runs = c.args.runs.now in
    let others = c.args.others.now in
    let i = c.loop-at.at in
    sym (take_all i runs c.loop-at-test.false) ∙ c.loop-at.invariant ∙ take_all i others (omega (arith, c.if-runs-others.false, c.loop-at-test.false))
