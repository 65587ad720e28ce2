use Rattle.type_changes.proofs.Pairing.{news_more}
use Rattle.type_changes.proofs.entries.push_news.Goals as goal

pub loop-new-preserved : goal.loop-new-preserved
loop-new-preserved c =
    news_more c.args.news.now c.loop-new.new-index c.new-item.result c.args.entries.now.items c.loop-new.entries.items c.push.new.self.items c.of_new.result c.loop-new-test.true c.new-item.is c.in_ok-push.ensures.items c.of_new.ensures c.loop-new.invariant
