use Rattle.std.proofs.Common.{◌++◌, ◌∙◌, ap, codes}
use Rattle.std.specs.Prelude.{decimal}
use Rattle.node_run.proofs.Summaries.{seven_pieces}
use Rattle.node_run.proofs.log.generated.summary_of.Goals as goal

pub returns : goal.returns
returns c =
    seven_pieces _ _ _ _ _ _ _ _ _ _ _ _ _ _ _ c.new-line.ensures.items (c.in_ok-push_labelled.ensures {u = tt}) (c.in_ok-push_labelled-2.ensures {u = tt} ∙ ap (λ n. c.push_labelled.new.text.items ++ (codes " transfers " ++ decimal n)) c.transfers.ensures.value) (c.in_ok-push_labelled-3.ensures {u = tt}) (c.in_ok-push_labelled-4.ensures {u = tt}) (c.in_ok-push_labelled-5.ensures {u = tt}) (c.in_ok-push_labelled-6.ensures {u = tt}) (c.in_ok-push_labelled-7.ensures {u = tt}) c.in_ok-push.ensures.items
