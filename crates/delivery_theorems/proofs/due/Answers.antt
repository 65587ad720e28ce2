use Rattle.delivery_theorems.proofs.due.Goals as goal
use Rattle.delivery_theorems.proofs.Dues.{due_theorem}

pub returns : goal.returns
returns c = due_theorem
