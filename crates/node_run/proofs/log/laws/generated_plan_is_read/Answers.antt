use Rattle.log_gen.specs.Rules.{plan_text}
use Rattle.node_run.specs.Generated.{generated_plan}
use Rattle.node_run.proofs.Summaries.{is_plan}
use Rattle.node_run.proofs.log.laws.generated_plan_is_read.Goals as goal

pub returns : goal.returns
returns c = λ names. c.plain_plans.ensures names plan_text generated_plan (is_plan names)
