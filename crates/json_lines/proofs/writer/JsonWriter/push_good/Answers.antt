use Rattle.dsdl_types.specs.Views.{sch, val}
use Rattle.json_lines.specs.Writer.{writes_for}
use Rattle.json_lines.proofs.Lines.{valued_put}
use Rattle.json_lines.proofs.writer.JsonWriter.push_good.Goals as goal

pub returns-else-is_err-clause-ok : goal.returns-else-is_err-clause-ok
returns-else-is_err-clause-ok c =
    valued_put c.put_last-put.result (writes_for c.args.self.now) c.args.rx.now (sch c.args.schema.now) (val c.args.value.now) _ _ _ _ _ c.reserve_for.ensures.text c.put_front.ensures.text c.put_slice.ensures.text c.put_last-put.ensures.put
