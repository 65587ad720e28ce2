use Rattle.node_plan.proofs.PlanLemmas.{plan_of-take}
use Rattle.node_plan.proofs.MigratedTexts.{plans_are_short}
use Rattle.node_plan.proofs.laws.front_decides.Goals as goal

pub returns-clause-front : goal.returns-clause-front
returns-clause-front c = plan_of-take

pub returns-clause-short : goal.returns-clause-short
returns-clause-short c = plans_are_short
