use Rattle.std.proofs.Common.{◌∙◌, sym, subst}
use Rattle.std.proofs.lemmas.List.{take_all}
use Rattle.value_text.specs.Ends.{Clear, stop}
use Rattle.value_text.proofs.Scans.{clear_more, token_is, token_all}
use Rattle.value_text.proofs.scan.token.Goals as goal

pub returns-then-is_stop : goal.returns-then-is_stop
returns-then-is_stop c t rest f h e = token_is c.behind-rest.result.now c.loop-len.len 0 c.loop-len-test.true c.loop-len.invariant (sym c.if-is_stop.ensures) t rest f h (c.behind-rest.ensures ∙ e)

pub loop-len-preserved : goal.loop-len-preserved
loop-len-preserved c = clear_more stop c.behind-rest.result.now c.loop-len.len 0 c.loop-len-test.true c.loop-len.invariant (sym c.if-is_stop.ensures)

pub returns : goal.returns
returns c t rest f h e =
    token_all c.behind-rest.result.now (subst (λ l. Clear stop l) (take_all c.loop-len.len c.behind-rest.result.now c.loop-len-test.false) c.loop-len.invariant) t rest f h (c.behind-rest.ensures ∙ e)
