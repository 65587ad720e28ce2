use Rattle.type_changes.proofs.Loops.{text_more}
use Rattle.type_changes.proofs.told.text_of.Goals as goal

pub loop-line-preserved : goal.loop-line-preserved
loop-line-preserved c =
    text_more c.args.lines.now c.loop-line.line-index c.line-item.result c.loop-line.text.items c.push_line.new.text.items c.loop-line-test.true c.line-item.is c.loop-line.invariant c.in_ok-push_line.ensures
