use Rattle.delivery_theorems.proofs.due_in_report.Goals as goal
use Rattle.delivery_theorems.proofs.Headlines.{due_in_report}

pub returns : goal.returns
returns c = due_in_report
