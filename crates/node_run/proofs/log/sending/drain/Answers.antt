use Rattle.std.proofs.Common.{◌≡◌, ◌∙◌, map, ap, arith}
use Rattle.node_core.specs.Keeps.{keeps}
use Rattle.node_core.specs.Queues.{drained, waiting}
use Rattle.node_core.specs.Steps.{Kept}
use Rattle.node_run.proofs.Waits.{waiting_left}
use Rattle.node_run.proofs.log.sending.drain.Goals as goal

pub overflow_sub-result : goal.overflow_sub-result
overflow_sub-result g c =
    let qs = (keeps c.args.node.now).queues in
    let all = waiting_left c.args.moment qs in
    let stay : c.waiting.result ≡ waiting (map drained qs) = c.waiting.ensures ∙ ap (λ (k : Kept). waiting k.queues) c.in_ok-drain_buses.ensures.keeps in
    let before : c.waiting-before.result ≡ waiting qs = c.waiting-before.ensures in omega arith

pub returns-clause-sent : goal.returns-clause-sent
returns-clause-sent g c =
    let qs = (keeps c.args.node.now).queues in
    let all = waiting_left c.args.moment qs in
    let stay : c.waiting.result ≡ waiting (map drained qs) = c.waiting.ensures ∙ ap (λ (k : Kept). waiting k.queues) c.in_ok-drain_buses.ensures.keeps in
    let before : c.waiting-before.result ≡ waiting qs = c.waiting-before.ensures in omega arith
