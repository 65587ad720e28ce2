use Rattle.std.proofs.Common.{sym, ◌∙◌}
use Rattle.time_sync.specs.Times.{is_kept_recent}
use Rattle.time_sync.proofs.Least.{least_zero, least_found, least_further}
use Rattle.time_sync.proofs.sync.Sync.master.Goals as goal

pub loop-source-init : goal.loop-source-init
loop-source-init c = least_zero (is_kept_recent c.args.moment c.args.self.now.sources)

pub returns-then-is_recent-clause-least : goal.returns-then-is_recent-clause-least
returns-then-is_recent-clause-least c =
    sym (least_found (is_kept_recent c.args.moment c.args.self.now.sources) c.loop-source.source 128 c.loop-source-test.true c.loop-source.invariant (sym c.is_recent.ensures ∙ c.if-is_recent.true))

pub loop-source-preserved : goal.loop-source-preserved
loop-source-preserved c = least_further (is_kept_recent c.args.moment c.args.self.now.sources) c.loop-source.source c.loop-source.invariant (sym c.is_recent.ensures ∙ c.if-is_recent.false)
