use Rattle.std.proofs.Common.{append_assoc}
use Rattle.json_lines.specs.Writer.{writes_for}
use Rattle.json_lines.proofs.writer.JsonWriter.put_front.Goals as goal

pub returns-clause-text : goal.returns-clause-text
unfolding writes_for
returns-clause-text c =
    rw (
      c.put_payload.ensures.text,
      c.put_transfer.ensures.text,
      c.put_key.ensures.text,
      c.put_place.ensures.text,
    ) (simp append_assoc)
