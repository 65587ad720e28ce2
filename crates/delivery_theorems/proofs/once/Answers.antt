use Rattle.delivery_theorems.proofs.once.Goals as goal
use Rattle.delivery_theorems.proofs.Selection.{once_theorem}

pub returns : goal.returns
returns c = once_theorem
