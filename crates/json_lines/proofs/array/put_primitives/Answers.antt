use Rattle.std.proofs.Common.{◌∙◌, refl}
use Rattle.dsdl_types.specs.Schemas.{Simple}
use Rattle.line_text.specs.Buffer.{text_of}
use Rattle.wire_values.specs.Reads.{behind}
use Rattle.value_put.specs.Counted.{counted}
use Rattle.value_put.proofs.Front.{begins_same, begins_then}
use Rattle.json_lines.proofs.Rows.{row_end, row_next, row_start}
use Rattle.json_lines.proofs.array.put_primitives.Goals as goal

pub loop-index-init : goal.loop-index-init
loop-index-init g c =
    let p = c.args.at.now.place in
    record {
      put = row_start (Simple (g.P.JsonPrimitive.kind c.args.item.now)) c.args.count p
          (behind (counted c.args.at.now) p) (text_of c.args.text.now);
      same = refl;
      front =
          begins_same _ _ refl;
    }

pub loop-index-preserved : goal.loop-index-preserved
loop-index-preserved g c =
    let m = c.args.at.now.place in
    let p = c.loop-index.at.place in
    let q = c.put_primitive.new.at.place in
    record {
      put = row_next (Simple (g.P.JsonPrimitive.kind c.args.item.now)) c.args.count
          c.loop-index.index m p q (behind (counted c.args.at.now) m)
          (behind (counted c.loop-index.at) p) (behind (counted c.put_primitive.new.at) q)
          (text_of c.args.text.now) (text_of c.loop-index.text) (text_of c.put_primitive.new.text)
          c.loop-index-test.true c.in_ok-put_primitive.ensures.put c.loop-index.invariant.put;
      same = c.in_ok-put_primitive.ensures.same ∙ c.loop-index.invariant.same;
      front = begins_then _ _ _ c.loop-index.invariant.front c.in_ok-put_primitive.ensures.front;
    }

pub returns-clause-put : goal.returns-clause-put
returns-clause-put g c =
    let p = c.args.at.now.place in
    let q = c.loop-index.at.place in
    row_end (Simple (g.P.JsonPrimitive.kind c.args.item.now)) c.args.count c.loop-index.index p q
    (behind (counted c.args.at.now) p) (behind (counted c.loop-index.at) q)
    (text_of c.args.text.now) (text_of c.loop-index.text)
    c.loop-index-test.false c.loop-index.invariant.put
