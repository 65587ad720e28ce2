use Rattle.node_plan.proofs.MigratedParts.{migrated_text-next}
use Rattle.node_plan.proofs.migration.migrated_text.Goals as goal

pub loop-line-preserved : goal.loop-line-preserved
loop-line-preserved c = migrated_text-next c.args.numbers.now c.args.text.now c.loop-line.made c.loop-line.behind.now c.in-Some.line.now c.in-Some.rest.now c.push_line.new.made c.extend.new.self
    c.loop-line.invariant c.in-Some.ensures.parts c.in_ok-push_line.ensures c.in_ok-extend.ensures.ok
