use Rattle.std.proofs.Common.{◌∙◌, sym}
use Rattle.dsdl_resolve.proofs.Opening as opening
use Rattle.dsdl_resolve.proofs.open_section.OpenSection.worth.Goals as goal

pub returns-clause-value : goal.returns-clause-value
returns-clause-value c =
    (opening.answered c.args.scope.now c.args.self.now c.args.statement.now c.values_with_offset.result c.valued-2.result (opening.not_early _ _ (sym c.is_early.ensures ∙ c.if-is_early.false))
    c.values_with_offset.ensures.value c.valued-2.ensures).0

pub returns-clause-refusal : goal.returns-clause-refusal
returns-clause-refusal c =
    (opening.answered c.args.scope.now c.args.self.now c.args.statement.now c.values_with_offset.result c.valued-2.result (opening.not_early _ _ (sym c.is_early.ensures ∙ c.if-is_early.false))
    c.values_with_offset.ensures.value c.valued-2.ensures).1

pub returns-clause-kept : goal.returns-clause-kept
returns-clause-kept c = opening.kept_value c.values_with_offset.result c.valued-2.result _ c.values_with_offset.ensures.kept c.valued-2.ensures
