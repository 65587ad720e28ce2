use Rattle.node_reach.specs.Watched.{nodes_voice}
use Rattle.cyphal.specs.Words.{names_of}
use Rattle.cyphal.proofs.statuses.Reach.{ends_as_log}
use Rattle.cyphal.proofs.jobs.nodes.watch_nodes.Goals as goal

pub returns-clause-answer : goal.returns-clause-answer
returns-clause-answer g c h =
    let names = names_of c.args.buses in
    ends_as_log names nodes_voice _ _ c.watched.result _ _ c.status_of.result c.status_of.ensures h c.watched.ensures.listened
