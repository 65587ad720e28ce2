use Rattle.std.proofs.Common.{append_assoc}
use Rattle.text_lines.proofs.line_writer.LineWriter.push_end.Goals as goal

pub returns-clause-ok : goal.returns-clause-ok
returns-clause-ok c =
    rw (
      c.put_slice-3.ensures.text,
      c.put_number.ensures.text,
      c.put_slice-2.ensures.text,
      c.put_label-2.ensures.text,
      c.put_label.ensures.text,
      c.put_received.ensures.text,
      c.put_slice.ensures.text,
      c.reserve.ensures.text,
    ) (simp append_assoc)
