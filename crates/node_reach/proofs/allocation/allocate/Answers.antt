use Rattle.std.proofs.Common.{ℕ, List, subst}
use Rattle.tail_frame.specs.declared.logged.Record.{Record}
use Rattle.log_loop.specs.Gone.{any_stages}
use Rattle.log_loop.specs.Listened.{HasListened}
use Rattle.node_reach.specs.Allocated.{allocate_voice}
use Rattle.node_reach.specs.Buses.{bus_names}
use Rattle.log_loop.proofs.Weaker.{has_listened}
use Rattle.node_reach.proofs.allocation.allocate.Goals as goal

pub returns-clause-listened : goal.returns-clause-listened
returns-clause-listened g c =
    let left = g.L.Source.left c.args.input.now in
    let new = g.L.Source.left c.listen.new.input in
    let before = g.O.Sink.written c.args.out.now in
    let after = g.O.Sink.written c.listen.new.out in
    let own = c.new-allocating.result.own in
    subst (λ own. HasListened bus_names (allocate_voice own) (any_stages Record) left new c.listen.result before after) c.new-allocating.ensures.own
    (subst (λ (names : List (List ℕ)). HasListened names (allocate_voice own) (any_stages Record) left new c.listen.result before after) c.bus_names.ensures
    (has_listened c.bus_names.result (allocate_voice own) _ left new c.listen.result before after c.listen.ensures.listened))
