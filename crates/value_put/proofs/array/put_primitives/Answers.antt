use Rattle.std.proofs.Common.{◌∙◌}
use Rattle.dsdl_types.specs.Schemas.{Simple}
use Rattle.line_text.specs.Buffer.{text_of}
use Rattle.wire_values.specs.Reads.{behind}
use Rattle.value_put.specs.Counted.{counted}
use Rattle.value_put.specs.Parts.{row_told}
use Rattle.value_put.specs.Told.{told_at}
use Rattle.value_put.proofs.Front.{begins_then}
use Rattle.value_put.proofs.Rows.{row_end, row_next}
use Rattle.value_put.proofs.array.put_primitives.Goals as goal

pub loop-index-preserved : goal.loop-index-preserved
loop-index-preserved g c =
    let s = Simple (g.P.Primitive.prim c.args.item.now) in
    let n = c.args.count in
    let p = c.loop-index.at.place in
    let q = c.put_primitive.new.at.place in
    record {
      told = row_next s n c.loop-index.index (text_of c.loop-index.text) (text_of c.put_primitive.new.text) p q (behind (counted c.loop-index.at) p) (behind (counted c.put_primitive.new.at) q)
          (told_at (row_told s n 0) c.args.at.now c.args.text.now) c.loop-index-test.true c.in_ok-put_primitive.ensures.put c.loop-index.invariant.told;
      same = c.in_ok-put_primitive.ensures.same ∙ c.loop-index.invariant.same;
      front = begins_then _ _ _ c.loop-index.invariant.front c.in_ok-put_primitive.ensures.front;
    }

pub returns-clause-told : goal.returns-clause-told
returns-clause-told g c =
    let p = c.args.at.now.place in
    let q = c.loop-index.at.place in
    row_end (Simple (g.P.Primitive.prim c.args.item.now)) c.args.count c.loop-index.index (text_of c.args.text.now) (text_of c.loop-index.text) p q (behind (counted c.args.at.now) p) (behind (counted c.loop-index.at) q)
    c.loop-index-test.false c.loop-index.invariant.told
