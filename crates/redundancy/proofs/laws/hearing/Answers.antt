use Rattle.redundancy.proofs.Hears.{hear_is}
use Rattle.redundancy.proofs.laws.hearing.Goals as goal

pub returns : goal.returns
returns c = hear_is
