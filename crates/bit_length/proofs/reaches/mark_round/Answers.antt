use Rattle.std.proofs.Common.{◌≡◌, ◌+◌, ◌%◌, length, ap, ◌∙◌, sym, arith}
use Rattle.bit_length.proofs.ReachLemmas.{next_turn}
use Rattle.bit_length.proofs.reaches.mark_round.Goals as goal

pub loop-preserved : goal.loop-preserved
loop-preserved c =
    let reaches = c.args.reaches.now in
    let after : c.next-at.result ≡ (c.loop.at + c.args.stride) % length c.args.reaches.now = c.next-at.ensures ∙ ap (λ k. (c.loop.at + c.args.stride) % k) (sym c.requires.same) in
    next_turn reaches c.args.stride c.args.from c.loop.counter c.loop.at c.loop.left c.max.result c.next-at.result c.mark-left.result c.args.marks.now c.loop.marks c.mark-left.new.marks (omega arith) c.max.ensures after c.mark-left.ensures.left c.loop.invariant c.mark-left.ensures.marks
