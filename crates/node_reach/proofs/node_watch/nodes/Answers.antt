use Rattle.log_loop.proofs.Listened.{listened_none}
use Rattle.log_loop.proofs.Plain.{plain_comes}
use Rattle.log_loop.proofs.Weaker.{has_listened}
use Rattle.log_loop.specs.Gone.{any_stages}
use Rattle.tail_frame.specs.declared.logged.Record.{Record}
use Rattle.node_reach.specs.Watched.{nodes_voice, watch_text, watch_end}
use Rattle.node_reach.proofs.node_watch.nodes.Goals as goal

pub returns-in_default-clause-listened : goal.returns-in_default-clause-listened
returns-in_default-clause-listened g c =
    listened_none c.args.names nodes_voice (any_stages Record) (plain_comes watch_text watch_end) (g.L.Source.left c.args.input.now) (g.O.Sink.written c.args.out.now) tt

pub returns-clause-listened : goal.returns-clause-listened
returns-clause-listened g c =
    has_listened c.args.names nodes_voice _ (g.L.Source.left c.args.input.now) (g.L.Source.left c.listen.new.input) c.listen.result (g.O.Sink.written c.args.out.now) (g.O.Sink.written c.listen.new.out) c.listen.ensures.listened
