use Rattle.type_versions.proofs.Loops.{lines_more, first_more}
use Rattle.type_versions.proofs.versions.compared.Goals as goal

pub loop-pair-preserved : goal.loop-pair-preserved
loop-pair-preserved c =
    let old = c.loop-pair.versions in
    let new = c.push_pair.new.versions in (
      lines_more c.args.pairs.now c.loop-pair.pair-index c.pair-item.result old.lines.items new.lines.items c.loop-pair-test.true c.pair-item.is c.loop-pair.invariant.0 c.in_ok-push_pair.ensures.line,
      first_more c.args.pairs.now c.loop-pair.pair-index c.pair-item.result old.first new.first c.loop-pair-test.true c.pair-item.is c.loop-pair.invariant.1 c.in_ok-push_pair.ensures.first,
    )
