use Rattle.std.proofs.Common.{◌∙◌, Err, ap}
use Rattle.dsdl_types.specs.declared.namespace.Namespace.{Namespace}
use Rattle.node_run.specs.Generated.{generated_plan}
use Rattle.node_run.proofs.Summaries.{good_is, not_refused, only_plan}
use Rattle.node_run.proofs.log.generated.plan_of_all.Goals as goal

pub returns-in-Ok-clause-plan : goal.returns-in-Ok-clause-plan
returns-in-Ok-clause-plan c =
    let names : Namespace = record { definitions = c.empty.result; prints = c.empty-2.result } in
    good_is c.in-Ok.plan generated_plan (only_plan c.one_plan.ensures c.generated_plan_is_read.ensures names _ c.in-Ok.ensures.plan)

pub unreachable-requires : goal.unreachable-requires
unreachable-requires c =
    let names : Namespace = record { definitions = c.empty.result; prints = c.empty-2.result } in
    not_refused _ _ (only_plan c.one_plan.ensures c.generated_plan_is_read.ensures names _ (c.read_plan.ensures.refused _ _ (c.in-Err-Refused.is ∙ ap Err c.in-Err-Refused.field-0-is)))
