use Rattle.node_reach.proofs.WatchedLaws.{watch_laws}
use Rattle.node_reach.proofs.node_watch.watch_laws.Goals as goal

pub returns : goal.returns
returns c = watch_laws
