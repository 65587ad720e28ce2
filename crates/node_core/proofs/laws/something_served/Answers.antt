use Rattle.node_core.proofs.Served.{something_served}
use Rattle.node_core.proofs.laws.something_served.Goals as goal

pub returns : goal.returns
returns c = something_served
