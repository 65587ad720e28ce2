use Rattle.dsdl_types.specs.Schemas.{Simple}
use Rattle.line_text.specs.Buffer.{text_of}
use Rattle.wire_values.specs.Reads.{behind}
use Rattle.value_json.proofs.Adding.{on_ok}
use Rattle.value_put.specs.Counted.{counted}
use Rattle.json_lines.proofs.Rows.{item_put}
use Rattle.json_lines.proofs.array.put_primitive.Goals as goal

pub returns-clause-put : goal.returns-clause-put
returns-clause-put g c =
    let p = c.args.at.now.place in
    let q = c.put_json.new.at.place in
    on_ok c.put_json.result
    (λ r n. item_put (Simple (g.P.JsonPrimitive.kind c.args.item.now)) n c.args.index p q
    (behind (counted c.args.at.now) p) (behind (counted c.put_json.new.at) q)
    (text_of c.args.text.now) (text_of c.put_lead.new.text) (text_of c.put_json.new.text)
    c.in_ok-put_lead.ensures.text r)
    c.put_json.ensures.put
