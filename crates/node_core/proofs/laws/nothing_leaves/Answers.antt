use Rattle.node_core.proofs.Waits.{nothing_emptied, nothing_leaves}
use Rattle.node_core.proofs.laws.nothing_leaves.Goals as goal

pub returns-clause-after : goal.returns-clause-after
returns-clause-after c = nothing_leaves

pub returns-clause-end : goal.returns-clause-end
returns-clause-end c = nothing_emptied
