use Rattle.std.proofs.Common.{subst, ◌∙◌}
use Rattle.bit_length.specs.Lengths.{Has, IsGreatest}
use Rattle.bit_length.proofs.kept.Shared.max.Goals as goal

pub returns-clause-greatest : goal.returns-clause-greatest
returns-clause-greatest c = subst (λ v. IsGreatest (Has v) c.max.result) (c.as_ref.ensures ∙ c.self.view_is) c.max.ensures.greatest
