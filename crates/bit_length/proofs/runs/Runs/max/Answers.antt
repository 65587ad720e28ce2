use Rattle.std.proofs.Common.{subst, sym, ap, ◌∙◌}
use Rattle.bit_length.specs.Kept.{members_in}
use Rattle.bit_length.specs.Lengths.{Has, IsGreatest}
use Rattle.bit_length.proofs.runs.Runs.max.Goals as goal

pub returns-in-Alone-clause-greatest : goal.returns-in-Alone-clause-greatest
returns-in-Alone-clause-greatest c =
    subst (λ v. IsGreatest (Has v) c.max.result) (sym (ap members_in c.in-Alone.is) ∙ c.self.view_is) c.max.ensures.greatest

pub returns-in-Together-clause-greatest : goal.returns-in-Together-clause-greatest
returns-in-Together-clause-greatest c =
    subst (λ v. IsGreatest (Has v) c.max-in-Together.result) (sym (ap members_in c.in-Together.is) ∙ c.self.view_is) c.max-in-Together.ensures.greatest
