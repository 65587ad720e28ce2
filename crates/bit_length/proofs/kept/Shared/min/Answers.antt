use Rattle.std.proofs.Common.{subst, ◌∙◌}
use Rattle.bit_length.specs.Lengths.{Has, IsLeast}
use Rattle.bit_length.proofs.kept.Shared.min.Goals as goal

pub returns : goal.returns
returns c = subst (λ v. IsLeast (Has v) c.min.result) (c.as_ref.ensures ∙ c.self.view_is) c.min.ensures
