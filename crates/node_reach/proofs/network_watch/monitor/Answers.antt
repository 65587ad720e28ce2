use Rattle.std.proofs.Common.{ℕ, List, subst}
use Rattle.tail_frame.specs.declared.logged.Record.{Record}
use Rattle.log_loop.proofs.Listened.{listened_none}
use Rattle.log_loop.proofs.Plain.{plain_comes}
use Rattle.log_loop.specs.Gone.{any_stages}
use Rattle.log_loop.specs.Listened.{HasListened}
use Rattle.node_reach.specs.Buses.{bus_names}
use Rattle.node_reach.specs.Monitored.{monitor_voice, step_text, last_text}
use Rattle.log_loop.proofs.Weaker.{has_listened}
use Rattle.node_reach.proofs.network_watch.monitor.Goals as goal

pub returns-in_default-clause-listened : goal.returns-in_default-clause-listened
returns-in_default-clause-listened g c =
    listened_none bus_names (monitor_voice c.args.own) (any_stages Record) (plain_comes step_text (last_text c.args.own)) (g.L.Source.left c.args.input.now) (g.O.Sink.written c.args.out.now) tt

pub returns-clause-listened : goal.returns-clause-listened
returns-clause-listened g c =
    let left = g.L.Source.left c.args.input.now in
    let new = g.L.Source.left c.listen.new.input in
    let before = g.O.Sink.written c.args.out.now in
    let after = g.O.Sink.written c.listen.new.out in
    let own = c.in-Ok.monitoring.ear.own in
    subst (λ own. HasListened bus_names (monitor_voice own) (any_stages Record) left new c.listen.result before after) (c.in-Ok.ensures {u = tt}).own
    (subst (λ (names : List (List ℕ)). HasListened names (monitor_voice own) (any_stages Record) left new c.listen.result before after) c.bus_names.ensures
    (has_listened c.bus_names.result (monitor_voice own) _ left new c.listen.result before after c.listen.ensures.listened))
