use Rattle.log_gen.specs.Rules.{sent_by}
use Rattle.log_gen.proofs.Pushed.{pushed}
use Rattle.log_gen.proofs.generated.sent_of.Goals as goal

pub loop-source-preserved : goal.loop-source-preserved
loop-source-preserved c =
    pushed (sent_by c.args.number) c.loop-source.source c.loop-source.sent c.push.new.self c.in_ok-sent_by.field-0 c.in_ok-push.ensures.ok c.loop-source.invariant c.in_ok-sent_by.ensures
