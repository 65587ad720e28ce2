use Rattle.std.proofs.Common.{append_assoc}
use Rattle.json_lines.specs.Writer.{writes_for}
use Rattle.value_json.proofs.Adding.{adds_exact}
use Rattle.json_lines.proofs.writer.JsonWriter.push_refused.Goals as goal

pub returns-clause-ok : goal.returns-clause-ok
unfolding writes_for
returns-clause-ok c =
    adds_exact _ _ _ (rw (
      c.put_slice.ensures.text,
      c.put_label.ensures.text,
      c.put_key.ensures.text,
      c.put_place.ensures.text,
      c.reserve.ensures.text,
    ) (simp append_assoc))
