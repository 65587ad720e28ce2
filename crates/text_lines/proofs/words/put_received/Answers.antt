use Rattle.std.proofs.Common.{append_assoc}
use Rattle.text_lines.proofs.words.put_received.Goals as goal

pub returns-clause-text : goal.returns-clause-text
returns-clause-text c =
    rw (
      c.put_label-4.ensures.text,
      c.put_label-3.ensures.text,
      c.put_label-2.ensures.text,
      c.put_label.ensures.text,
    ) (simp append_assoc)
