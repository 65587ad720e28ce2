use Rattle.node_core.specs.Types.{type_at}
use Rattle.node_core.proofs.fed.received.Goals as goal

pub returns-clause-typed : goal.returns-clause-typed
returns-clause-typed c = c.received_as.ensures.typed (type_at c.args.table.now) c.type_at.ensures
