use Rattle.log_explain.proofs.Runs.{as_runs}
use Rattle.log_explain.proofs.laws.as_runs.Goals as goal

pub returns : goal.returns
returns c = as_runs
