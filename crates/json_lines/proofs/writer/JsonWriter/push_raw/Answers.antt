use Rattle.json_lines.specs.Writer.{writes_for}
use Rattle.json_lines.proofs.Lines.{raw_put}
use Rattle.json_lines.proofs.writer.JsonWriter.push_raw.Goals as goal

pub returns-clause-ok : goal.returns-clause-ok
returns-clause-ok c =
    raw_put (writes_for c.args.self.now) c.args.rx.now _ _ _ _ c.requires c.reserve_for.ensures.text c.put_front.ensures.text c.put_slice.ensures.text
