use Rattle.node_core.proofs.Served.{served_once}
use Rattle.node_core.proofs.laws.served_once.Goals as goal

pub returns : goal.returns
returns c = served_once c.file_laws.ensures.answers
