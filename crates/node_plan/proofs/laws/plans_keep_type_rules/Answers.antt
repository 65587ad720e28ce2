use Rattle.node_plan.proofs.TypeRules.{plans_keep_type_rules}
use Rattle.node_plan.proofs.laws.plans_keep_type_rules.Goals as goal

pub returns : goal.returns
returns c = plans_keep_type_rules
