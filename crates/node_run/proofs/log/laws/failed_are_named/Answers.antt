use Rattle.node_run.proofs.FailedLines.{failed_named}
use Rattle.node_run.proofs.log.laws.failed_are_named.Goals as goal

pub returns : goal.returns
returns c = failed_named c.ordered.ensures.order
