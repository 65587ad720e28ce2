use Rattle.std.proofs.Common.{◌∙◌, map, sym, ap}
use Rattle.node_plan.specs.declared.plan.Plan.{Plan}
use Rattle.node_core.specs.Keeps.{emptied}
use Rattle.node_core.specs.Steps.{empty_queue}
use Rattle.node_core.proofs.Places.{pushed_all}
use Rattle.node_core.proofs.node.Node.reply.Goals as goal

pub returns-clause-stands : goal.returns-clause-stands
returns-clause-stands c = λ past s.
    let t = c.in_ok-size.ensures.stands past s in record {
      timeout = t.timeout;
      ports_are = t.ports_are;
      types = t.types;
      sessions = t.sessions;
    }

pub returns-clause-queues : goal.returns-clause-queues
returns-clause-queues c = λ h.
    (pushed_all _ _ _ _ _ c.push_all.ensures.queues ∙ ap (map emptied) c.answer_with.ensures.queues)
    ∙ (h ∙ ap (λ (p : Plan). map (empty_queue p.queue) p.buses) (sym c.answer_with.ensures.plan))
