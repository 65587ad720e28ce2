use Rattle.node_reach.proofs.lines.put_frame.Goals as goal

pub returns : goal.returns
returns c = simp (c.put_tx.ensures.text, c.in_ok-reserve.ensures.text)
