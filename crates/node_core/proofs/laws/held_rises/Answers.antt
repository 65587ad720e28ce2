use Rattle.node_core.proofs.Held.{held_rises}
use Rattle.node_core.proofs.laws.held_rises.Goals as goal

pub returns : goal.returns
returns c = held_rises
