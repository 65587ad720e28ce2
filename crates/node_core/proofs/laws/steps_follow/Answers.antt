use Rattle.node_core.proofs.Waits.{lines_join, records_of_steps}
use Rattle.node_core.proofs.laws.steps_follow.Goals as goal

pub returns-clause-records : goal.returns-clause-records
returns-clause-records c = records_of_steps

pub returns-clause-lines : goal.returns-clause-lines
returns-clause-lines c = lines_join
