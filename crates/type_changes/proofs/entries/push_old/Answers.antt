use Rattle.type_changes.proofs.Pairing.{is_before, is_with, is_after}
use Rattle.type_changes.proofs.entries.push_old.Goals as goal

pub returns-in-Less-clause-pushed : goal.returns-in-Less-clause-pushed
returns-in-Less-clause-pushed c =
    λ behind. is_before c.args.old.now c.args.news.now c.loop-at.at c.index-news-at.result c.loop-at-test.true c.index-news-at.is c.loop-at.entries.items c.push.new.self.items c.of_old.result c.in_ok-push-in-Less.ensures.items behind _ (c.loop-at.invariant behind) c.in-Less.ensures c.of_old.ensures

pub returns-in-Equal-clause-pushed : goal.returns-in-Equal-clause-pushed
returns-in-Equal-clause-pushed c =
    λ behind. is_with c.args.old.now c.args.news.now c.loop-at.at c.index-news-at.result c.loop-at-test.true c.index-news-at.is c.loop-at.entries.items c.push-in-Equal.new.self.items c.of_both.result c.in_ok-push-in-Equal.ensures.items behind _ (c.loop-at.invariant behind) c.in-Equal.ensures c.of_both.ensures

pub loop-at-preserved : goal.loop-at-preserved
loop-at-preserved c =
    λ behind. is_after c.args.old.now c.args.news.now c.loop-at.at c.index-news-at.result c.loop-at-test.true c.index-news-at.is c.loop-at.entries.items c.push-in-Greater.new.self.items c.of_new.result c.in_ok-push-in-Greater.ensures.items behind _ (c.loop-at.invariant behind) c.in-Greater.ensures c.of_new.ensures
