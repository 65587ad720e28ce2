use Rattle.std.proofs.Common.{sym, ◌∙◌}
use Rattle.type_changes.specs.Lines.{refusal}
use Rattle.type_changes.proofs.Loops.{passed, found, none_found}
use Rattle.type_changes.proofs.told.first_refusal.Goals as goal

pub loop-line-preserved : goal.loop-line-preserved
loop-line-preserved c =
    passed (λ x. refusal x.change) c.args.lines.now c.loop-line.line-index c.line-item.result _ c.loop-line-test.true c.line-item.is c.loop-line.invariant (sym c.in_ok-refusal.ensures ∙ c.in-Yes.is)

pub returns-in-No : goal.returns-in-No
returns-in-No c =
    found (λ x. refusal x.change) c.args.lines.now c.loop-line.line-index c.line-item.result _ c.loop-line-test.true c.line-item.is c.loop-line.invariant c.in-No.path c.in-No.why (sym c.in_ok-refusal.ensures ∙ c.in-No.is)

pub returns : goal.returns
returns c = none_found (λ x. refusal x.change) c.args.lines.now c.loop-line.line-index _ c.loop-line-test.false c.loop-line.invariant
