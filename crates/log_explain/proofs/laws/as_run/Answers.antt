use Rattle.log_explain.proofs.AsRun.{as_run}
use Rattle.log_explain.proofs.laws.as_run.Goals as goal

pub returns : goal.returns
returns c = as_run
