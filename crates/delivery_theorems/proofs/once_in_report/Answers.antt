use Rattle.delivery_theorems.proofs.once_in_report.Goals as goal
use Rattle.delivery_theorems.proofs.Reports.{once_in_report}

pub returns : goal.returns
returns c = once_in_report
