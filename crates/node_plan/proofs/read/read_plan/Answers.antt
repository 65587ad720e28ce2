use Rattle.node_plan.specs.Plan.{IsPlanOf}
use Rattle.node_plan.proofs.PlanLemmas.{plan_of_answer, refusal_of_answer, plan_of-answer, plan_of-take}
use Rattle.node_plan.proofs.read.read_plan.Goals as goal

pub returns-clause-plan : goal.returns-clause-plan
returns-clause-plan c = plan_of_answer (IsPlanOf c.args.names.now c.args.text.now) c.read_lines.result
    (plan_of-answer c.args.names.now c.limit_of-most.result c.min.result c.args.text.now c.read_lines.result c.limit_of-most.ensures c.min.ensures c.read_lines.ensures.value)

pub returns-clause-refused : goal.returns-clause-refused
returns-clause-refused c = refusal_of_answer (IsPlanOf c.args.names.now c.args.text.now) c.read_lines.result
    (plan_of-answer c.args.names.now c.limit_of-most.result c.min.result c.args.text.now c.read_lines.result c.limit_of-most.ensures c.min.ensures c.read_lines.ensures.value)

pub returns-clause-enough : goal.returns-clause-enough
returns-clause-enough c = plan_of-take
