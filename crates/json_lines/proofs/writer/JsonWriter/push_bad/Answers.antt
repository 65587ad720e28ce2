use Rattle.std.proofs.Common.{append_assoc}
use Rattle.json_lines.proofs.writer.JsonWriter.push_bad.Goals as goal

pub returns-clause-ok : goal.returns-clause-ok
returns-clause-ok c =
    rw (
      c.put_slice-2.ensures.text,
      c.put_error.ensures.text,
      c.put_slice.ensures.text,
      c.put_front.ensures.text,
      c.reserve_for.ensures.text,
    ) (simp append_assoc)
