use Rattle.delivery_theorems.proofs.once_in_part.Goals as goal
use Rattle.delivery_theorems.proofs.Headlines.{once_in_part}

pub returns : goal.returns
returns c = once_in_part
