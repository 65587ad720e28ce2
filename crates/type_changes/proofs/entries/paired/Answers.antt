use Rattle.type_changes.proofs.Pairing.{all_told, old_more}
use Rattle.type_changes.proofs.entries.paired.Goals as goal

pub loop-old-preserved : goal.loop-old-preserved
loop-old-preserved c =
    (c.in_ok-at.ensures.within, old_more c.args.olds.now c.args.news.now c.loop-old.old-index c.loop-old.at c.in_ok-at.at c.old-item.result c.loop-old.entries.items c.push_old.new.entries.items _ c.loop-old-test.true c.old-item.is c.in_ok-at.ensures.pushed c.loop-old.invariant.1)

pub returns : goal.returns
returns c =
    all_told c.args.olds.now c.args.news.now c.loop-old.old-index c.loop-old.at c.loop-old.entries.items c.push_news.new.entries.items _ c.loop-old-test.false c.in_ok-push_news.ensures c.loop-old.invariant.1
