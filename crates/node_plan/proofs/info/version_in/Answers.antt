use Rattle.std.proofs.Common.{◌∙◌, ◌∷◌, ap, sym}
use Rattle.node_plan.specs.Info.{version_of_parts}
use Rattle.node_plan.proofs.PartsLemmas.{version_of_parts-many}
use Rattle.node_plan.proofs.info.version_in.Goals as goal

pub returns-in-Some-cut-clause-value : goal.returns-in-Some-cut-clause-value
returns-in-Some-cut-clause-value c =
    let a = c.in-Some.major.now in
    sym (ap version_of_parts (c.in-Some.ensures.parts ∙ ap (λ t. a ∷ t) c.in-Some-cut.ensures.parts)
    ∙ version_of_parts-many a c.in-Some-cut.field-0.0.now c.in-Some-cut.field-0.1.now)
