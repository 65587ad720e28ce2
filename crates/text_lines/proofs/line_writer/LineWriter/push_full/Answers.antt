use Rattle.std.proofs.Common.{append_assoc}
use Rattle.text_lines.specs.Writer.{writes_for}
use Rattle.text_lines.proofs.line_writer.LineWriter.push_full.Goals as goal

pub returns-clause-ok : goal.returns-clause-ok
unfolding writes_for
returns-clause-ok c =
    rw (
      c.put_slice-4.ensures.text,
      c.put_number-3.ensures.text,
      c.put_slice-3.ensures.text,
      c.put_number-2.ensures.text,
      c.put_slice-2.ensures.text,
      c.put_number.ensures.text,
      c.put_place.ensures.text,
      c.put_slice.ensures.text,
      c.reserve.ensures.text,
    ) (simp append_assoc)
