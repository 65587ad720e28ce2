use Rattle.std.proofs.Common.{subst}
use Rattle.bit_length.specs.Lengths.{Has, IsGreatest}
use Rattle.bit_length.proofs.kept.Kept.max.Goals as goal

pub returns-clause-greatest : goal.returns-clause-greatest
returns-clause-greatest c = subst (λ v. IsGreatest (Has v) c.self.inside.greatest) c.self.view_is c.self.invariant.greatest
