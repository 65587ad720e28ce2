use Rattle.line_loop.specs.Reply.{voices}
use Rattle.line_loop.proofs.Replies.{one_reply}
use Rattle.line_loop.proofs.over_lines.one_reply.Goals as goal

pub returns-clause-text : goal.returns-clause-text
returns-clause-text g c h bytes t u e f x y =
    let m = g.M.LineListener in
    let l = c.args.listener.now in (one_reply (voices m.answers m.last m.long c.args.bounds l) h bytes t u e f x y).0

pub returns-clause-end : goal.returns-clause-end
returns-clause-end g c h bytes t u e f x y =
    let m = g.M.LineListener in
    let l = c.args.listener.now in (one_reply (voices m.answers m.last m.long c.args.bounds l) h bytes t u e f x y).1
