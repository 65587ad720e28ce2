use Rattle.line_text.specs.Buffer.{text_of}
use Rattle.node_reach.proofs.Changes.{tells_none}
use Rattle.node_reach.proofs.watching.Watching.tell_gone.Goals as goal

pub returns-then-moment-self-clause-gone : goal.returns-then-moment-self-clause-gone
returns-then-moment-self-clause-gone c = λ past stands calm.
    tells_none c.args.self.now.monitoring.ear.latest c.args.moment c.args.self.now.calm past (text_of c.args.gathered.now) c.requires c.if-moment-self.true calm
