use Rattle.std.proofs.Common.{◌∙◌, sym, arith}
use Rattle.dsdl_resolve.proofs.PaddingJudged.{gap_of, gap_is, padding_judged}
use Rattle.dsdl_resolve.proofs.entry.judge_padding.Goals as goal

pub returns-in-None-clause-judged : goal.returns-in-None-clause-judged
returns-in-None-clause-judged c = λ scope vs p said at h.
    let t = c.with_padding-totals.ensures.totals said.union said.fields (gap_of c.in-Some.bits) h.totals (gap_is c.in-Some.bits) in
    padding_judged scope p said vs c.args.digits.now at c.in-Some.bits c.greatest.result c.with_padding-totals.result
    (sym h.standing.extent ∙ c.if-before.false) (sym h.standing.union ∙ c.if-before-2.false) (cc) t c.with_padding-totals.ensures.counted
    (c.greatest.ensures said.union _ t) (sym c.in-None.ensures.refusal) c.in-None.ensures.within (omega arith) (omega arith)
