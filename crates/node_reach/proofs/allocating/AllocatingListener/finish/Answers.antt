use Rattle.std.proofs.Common.{◌++◌, ◌∙◌, length, codes}
use Rattle.line_text.specs.Buffer.{text_of}
use Rattle.node_reach.specs.Allocated.{events}
use Rattle.node_reach.specs.Lines.{end_line}
use Rattle.node_reach.proofs.Results.{on_ok}
use Rattle.node_reach.proofs.allocating.AllocatingListener.finish.Goals as goal

pub returns-clause-text : goal.returns-clause-text
returns-clause-text c =
    on_ok _ _ c.put_end.result (λ e first past h.
    let owners = c.owners.ensures.owners first.own (events first.own past) h.answered.stands in
    e ∙ (λ i. text_of c.args.gathered.now ++ end_line (h.records i) (codes "owners") (length (owners i)))) c.put_end.ensures
