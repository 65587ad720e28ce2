use Rattle.std.proofs.Common.{arith}
use Rattle.frame_log.proofs.ReadsLemmas.{ident-reads}
use Rattle.frame_log.proofs.quick.ident_at.Goals as goal

pub returns : goal.returns
returns c = ident-reads c.args.s.now c.in_ok-n.n (omega (arith, c.requires)) c.in_ok-n.ensures c.if-s-ne35.false
