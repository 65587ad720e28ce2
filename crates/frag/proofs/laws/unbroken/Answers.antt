use Rattle.frag.proofs.Unbroken.{unbroken}
use Rattle.frag.proofs.laws.unbroken.Goals as goal

pub returns : goal.returns
returns c = unbroken
