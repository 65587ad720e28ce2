use Rattle.std.proofs.Common.{subst}
use Rattle.bit_length.specs.Lengths.{Has, IsLeast}
use Rattle.bit_length.proofs.kept.Kept.min.Goals as goal

pub returns : goal.returns
returns c = subst (λ v. IsLeast (Has v) c.self.inside.least) c.self.view_is c.self.invariant.least
