use Rattle.node_core.proofs.Served.{nothing_served}
use Rattle.node_core.proofs.laws.nothing_served.Goals as goal

pub returns : goal.returns
returns c = nothing_served
