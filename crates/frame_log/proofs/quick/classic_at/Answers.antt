use Rattle.std.proofs.Common.{List, ℕ, sym, subst, arith}
use Rattle.frame_log.specs.Reads.{IsHex}
use Rattle.frame_log.proofs.PairLemmas.{no_front}
use Rattle.frame_log.proofs.ReadsLemmas.{classic-data}
use Rattle.frame_log.proofs.quick.classic_at.Goals as goal

pub last_block-requires-clause-front : goal.last_block-requires-clause-front
last_block-requires-clause-front c = subst (λ (b : List ℕ). IsHex c.args.s.now 0 b) (sym c.requires.empty) (no_front c.args.s.now)

pub returns-clause-data : goal.returns-clause-data
returns-clause-data c =
    let e = c.in_ok-n.ensures in
    classic-data c.args.s.now c.last_block.new.bytes c.in_ok-n.n e.value e.count (omega (arith, e.within.0)) c.if-s-n-ne10.false
