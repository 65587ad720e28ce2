use Rattle.std.proofs.Common.{ap}
use Rattle.can_id.specs.declared.key.Kind.TheVariants.{Message}
use Rattle.rx_table.specs.Ports.{port_at}
use Rattle.node_reach.proofs.monitoring.listening.Goals as goal

pub subscribe-requires-2-clause-free : goal.subscribe-requires-2-clause-free
subscribe-requires-2-clause-free c =
    let h = (c.in_ok-subscribe.ensures {u = tt}).hears _ (c.in_ok-ear.ensures {u = tt}).hears in
    ap (port_at Message 7168) h.ports

pub returns-clause-hears : goal.returns-clause-hears
returns-clause-hears c =
    (c.in_ok-subscribe-2.ensures {u = tt}).hears _ ((c.in_ok-subscribe.ensures {u = tt}).hears _ (c.in_ok-ear.ensures {u = tt}).hears)
