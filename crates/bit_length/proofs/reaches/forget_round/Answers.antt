use Rattle.std.proofs.Common.{◌+◌, sym, subst, arith}
use Rattle.bit_length.proofs.ReachLemmas.{IsForgetting, forgets_more}
use Rattle.bit_length.proofs.reaches.forget_round.Goals as goal
use Rattle.std.proofs.Common.{slice_set}

pub loop-preserved : goal.loop-preserved
loop-preserved c =
    subst (λ at. IsForgetting c.args.stride c.args.from (c.loop.counter + 1) at c.args.reaches.now (slice_set c.loop.reaches c.loop.at 0)) (sym c.next-at.ensures) (forgets_more c.args.stride c.args.from c.loop.counter c.loop.at c.args.reaches.now c.loop.reaches c.requires.from (omega arith) c.loop.invariant)
