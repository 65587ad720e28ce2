use Rattle.std.proofs.Common.{subst, sym, ap, ◌∙◌}
use Rattle.bit_length.specs.Kept.{members_in}
use Rattle.bit_length.specs.Lengths.{Has, IsLeast}
use Rattle.bit_length.proofs.runs.Runs.min.Goals as goal

pub returns-in-Alone : goal.returns-in-Alone
returns-in-Alone c =
    subst (λ v. IsLeast (Has v) c.min.result) (sym (ap members_in c.in-Alone.is) ∙ c.self.view_is) c.min.ensures

pub returns-in-Together : goal.returns-in-Together
returns-in-Together c =
    subst (λ v. IsLeast (Has v) c.min-in-Together.result) (sym (ap members_in c.in-Together.is) ∙ c.self.view_is) c.min-in-Together.ensures
