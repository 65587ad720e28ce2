use Rattle.std.proofs.Common.{append_assoc}
use Rattle.json_lines.specs.Writer.{writes_for}
use Rattle.value_json.proofs.Adding.{adds_exact}
use Rattle.json_lines.proofs.writer.JsonWriter.push_tx.Goals as goal

pub returns-clause-ok : goal.returns-clause-ok
unfolding writes_for
returns-clause-ok c =
    adds_exact _ _ _ (rw (
      c.put_slice-3.ensures.text,
      c.put_hex.ensures.text,
      c.put_slice-2.ensures.text,
      c.put_ident.ensures.text,
      c.put_slice.ensures.text,
      c.put_place.ensures.text,
      c.reserve.ensures.text,
      c.as_slice.ensures.value,
    ) (simp append_assoc))
