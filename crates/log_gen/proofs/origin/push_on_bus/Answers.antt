use Rattle.std.proofs.Common.{◌++◌, replicate, sym, ap, ◌∙◌}
use Rattle.frag.specs.declared.sent.Pair.{Pair}
use Rattle.log_gen.specs.Rows.{copies, place_of}
use Rattle.log_gen.proofs.Pairs.{next_pair}
use Rattle.log_gen.proofs.origin.push_on_bus.Goals as goal

pub loop-frame-preserved : goal.loop-frame-preserved
loop-frame-preserved c past h =
    let pair : Pair = record { j = place_of c.args.transfer; i = c.loop-frame.frame } in
    c.in_ok-push_copies.ensures {u = tt} ∙ ap (λ n. c.loop-frame.pairs ++ replicate n pair) c.copies.ensures.value
    ∙ ap (λ xs. xs ++ replicate (copies c.way_of-way.result c.loop-frame.frame) pair) (c.loop-frame.invariant past h)
    ∙ sym (next_pair c.way_of-way.result c.args.transfer c.args.bus c.loop-frame.frame past)
