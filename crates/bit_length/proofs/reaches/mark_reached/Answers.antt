use Rattle.std.proofs.Common.{◌%◌, length, ap, arith}
use Rattle.bit_length.proofs.ReachLemmas.{one_round, skips_round}
use Rattle.bit_length.proofs.reaches.mark_reached.Goals as goal
use Rattle.bit_length.proofs.reaches.mark_reached.Goals.{then-reaches-from-gt0, else-reaches-from-gt0}

pub loop-from-preserved : goal.loop-from-preserved
loop-from-preserved c = elim c.if-reaches-from-gt0.branch [
  | then-reaches-from-gt0 w ↦ rw (w.marks-is, w.reaches-is)
      (one_round c.args.step (c.args.step % length c.args.marks.now) c.loop-from.from c.args.round c.args.reaches.now c.loop-from.reaches w.forget_round.new.reaches c.loop-from.marks w.mark_round.new.marks (omega arith) (omega arith) (omega arith) (ap (λ k. c.args.step % k) (omega arith)) w.mark_round.ensures w.forget_round.ensures c.loop-from.invariant)
  | else-reaches-from-gt0 w ↦ rw (w.marks-is, w.reaches-is)
      (skips_round c.args.step c.loop-from.from c.args.reaches.now c.loop-from.reaches c.loop-from.marks (omega arith) c.loop-from.invariant)
]
