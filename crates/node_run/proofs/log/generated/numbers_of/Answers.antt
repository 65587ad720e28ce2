use Rattle.std.proofs.Common.{◌∙◌, inl, inr}
use Rattle.node_run.proofs.Summaries.{all_run, either, never, some_tree}
use Rattle.node_run.proofs.log.generated.numbers_of.Goals as goal

pub returns-in-Ok : goal.returns-in-Ok
returns-in-Ok c =
    all_run c.args.number c.explained_and_read.ensures.reads _ c.new-input.result.left.now (c.new-input.ensures ∙ c.as_slice.ensures ∙ c.in_ok-log.ensures) _ _ _ c.run_over.result _ _ c.in_ok-plan.plan c.in_ok-plan.ensures.plan c.run_over.ensures.ran c.nothing_served.ensures c.in-Ok.is

pub unreachable-requires : goal.unreachable-requires
unreachable-requires c =
    elim (either c.args.number c.explained_and_read.ensures.reads _ c.new-input.result.left.now (c.new-input.ensures ∙ c.as_slice.ensures ∙ c.in_ok-log.ensures) _ _ _ c.run_over.result _ _ c.in_ok-plan.plan c.in_ok-plan.ensures.plan c.run_over.ensures.ran (λ e. never (c.run_over.ensures.read e)) (λ e. never (c.run_over.ensures.write e))) [
      | inl e ↦ c.in_default.not-Ok e
      | inr e ↦ c.in_default.not-NoMemory e
    ]

pub unwrap-tree-requires : goal.unwrap-tree-requires
unwrap-tree-requires c = some_tree c.new.result c.empty.result c.empty.ensures c.new.ensures
