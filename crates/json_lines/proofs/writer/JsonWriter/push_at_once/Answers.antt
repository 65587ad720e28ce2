use Rattle.dsdl_types.specs.Views.{sch}
use Rattle.line_text.specs.Buffer.{text_of}
use Rattle.json_lines.specs.Writer.{writes_for}
use Rattle.json_lines.proofs.Lines.{typed_put}
use Rattle.json_lines.proofs.writer.JsonWriter.push_at_once.Goals as goal

pub returns-clause-put : goal.returns-clause-put
returns-clause-put c =
    typed_put c.put_typed.result (writes_for c.args.self.now) c.args.rx.now
    (sch c.args.shape.now.schema) (text_of c.args.text.now) (text_of c.reserve_for.new.text)
    (text_of c.put_front.new.text) (text_of c.put_typed.new.text) c.requires
    c.in_ok-reserve_for.ensures.text c.put_front.ensures.text c.put_typed.ensures.put
