use Rattle.std.proofs.Common.{◌∙◌, length, subst}
use Rattle.std.specs.List.{IsFirstBest}
use Rattle.tx_queue.specs.Waiting.{is_less}
use Rattle.tx_queue.proofs.First.{leaves, stays}
use Rattle.tx_queue.proofs.queue.TxQueue.pop.Goals as goal

pub returns-clause-frame : goal.returns-clause-frame
returns-clause-frame c =
    leaves c.args.self.now.waiting.items c.first_least-place.result c.remove.result
    (subst (λ xs. IsFirstBest is_less xs (length xs) c.first_least-place.result) c.as_slice.ensures.value c.first_least-place.ensures) c.remove.ensures.value

pub returns-clause-others : goal.returns-clause-others
returns-clause-others c =
    c.remove.ensures.items
    ∙ stays c.args.self.now.waiting.items c.first_least-place.result
    (subst (λ xs. IsFirstBest is_less xs (length xs) c.first_least-place.result) c.as_slice.ensures.value c.first_least-place.ensures)
