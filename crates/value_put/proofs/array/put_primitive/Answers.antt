use Rattle.dsdl_types.specs.Schemas.{Simple}
use Rattle.line_text.specs.Buffer.{text_of}
use Rattle.wire_values.specs.Reads.{behind}
use Rattle.value_put.specs.Counted.{counted}
use Rattle.value_put.proofs.Readings.{on_ok}
use Rattle.value_put.proofs.Rows.{told_item}
use Rattle.value_put.proofs.array.put_primitive.Goals as goal

pub returns-clause-put : goal.returns-clause-put
returns-clause-put g c =
    let p = c.args.at.now.place in
    let q = c.put.new.at.place in
    on_ok c.put.result
    (λ e n. told_item (Simple (g.P.Primitive.prim c.args.item.now)) n c.args.index p q (behind (counted c.args.at.now) p) (behind (counted c.put.new.at) q)
    (text_of c.args.text.now) (text_of c.put_lead.new.text) (text_of c.put.new.text) c.in_ok-put_lead.ensures.text e)
    c.put.ensures.told
