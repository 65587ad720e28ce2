use Rattle.type_changes.proofs.Loops.{lines_more}
use Rattle.type_changes.proofs.line.lines_of.Goals as goal

pub loop-entry-preserved : goal.loop-entry-preserved
loop-entry-preserved c =
    lines_more c.args.entries.now c.loop-entry.entry-index c.entry-item.result c.loop-entry.lines.items c.push_entry.new.lines.items c.loop-entry-test.true c.entry-item.is c.loop-entry.invariant c.in_ok-push_entry.ensures
