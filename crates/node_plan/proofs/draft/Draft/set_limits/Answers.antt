use Rattle.std.proofs.Common.{◌≡◌, ◌∙◌, Some, ap, subst}
use Rattle.node_plan.specs.Answers.{IsStep}
use Rattle.node_plan.specs.Draft.{limits_at, place_of}
use Rattle.node_plan.proofs.draft.Draft.set_limits.Goals as goal

pub returns-in-Some-clause-value : goal.returns-in-Some-clause-value
returns-in-Some-clause-value c =
    let at : Some c.in-Some.place ≡ place_of c.args.name.now c.args.self.now.registers = c.in-Some.ensures.value ∙ ap (place_of c.as_bytes.result.now) c.as_slice.ensures
    ∙ ap (λ name. place_of name c.args.self.now.registers) (c.as_bytes.ensures.value ∙ c.as_str.ensures) in
    subst (λ place. IsStep (limits_at c.args.self.now c.args.limits place) c.args.n c.set_limits_at.new.self c.set_limits_at.result) at c.set_limits_at.ensures.value
