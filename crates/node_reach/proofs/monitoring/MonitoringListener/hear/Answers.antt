use Rattle.std.proofs.Common.{append-nil, sym}
use Rattle.log_loop.proofs.Plain.{plain_heard}
use Rattle.node_reach.specs.Monitored.{step_text, last_text}
use Rattle.node_reach.proofs.monitoring.MonitoringListener.hear.Goals as goal

pub returns-clause-heard : goal.returns-clause-heard
returns-clause-heard c = plain_heard (λ first. step_text) (λ first. last_text first.ear.own) _ _ _ _ _ _ (λ first past h.
    (((c.in_ok-take.ensures {u = tt}).takes first.ear.own past h).0, sym (append-nil _)))
