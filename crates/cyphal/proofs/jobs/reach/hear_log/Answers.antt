use Rattle.node_reach.specs.Buses.{bus_names}
use Rattle.cyphal.specs.jobs.Reach.{voice_of}
use Rattle.cyphal.proofs.statuses.Reach.{ends_as_log}
use Rattle.cyphal.proofs.jobs.reach.hear_log.Goals as goal

pub returns-clause-answer : goal.returns-clause-answer
returns-clause-answer g c h =
    ends_as_log bus_names (voice_of c.args.hearing c.args.own.number) _ _ c.heard.result _ _ c.status_of.result c.status_of.ensures h c.heard.ensures.listened
