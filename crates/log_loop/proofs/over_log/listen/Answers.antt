use Rattle.std.proofs.Common.{[]}
use Rattle.log_loop.specs.Gone.{stages}
use Rattle.log_loop.proofs.Listened.{listened_none}
use Rattle.log_loop.proofs.over_log.listen.Goals as goal

pub returns-in_default-clause-listened : goal.returns-in_default-clause-listened
returns-in_default-clause-listened g c =
    let m = g.M.Listener in
    let it = c.args.listener.now in
    listened_none c.args.buses (m.voice it) (stages (m.heard it it) (m.ended it it) (m.broke it it) (m.cut_short it it)) (g.met.M.Listener.comes it) (g.L.Source.left c.args.input.now) (g.O.Sink.written c.args.out.now)
    (g.met.M.Listener.heard_broke it it [] c.requires.heard)
