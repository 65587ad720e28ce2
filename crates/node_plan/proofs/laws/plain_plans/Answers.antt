use Rattle.node_plan.proofs.PlainPlans.{plain_plans}
use Rattle.node_plan.proofs.laws.plain_plans.Goals as goal

pub returns : goal.returns
returns c = plain_plans
