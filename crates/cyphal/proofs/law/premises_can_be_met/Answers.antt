use Rattle.cyphal.proofs.Premises.{premises}
use Rattle.cyphal.proofs.law.premises_can_be_met.Goals as goal

pub returns : goal.returns
returns c = premises c.plain_plans.ensures
