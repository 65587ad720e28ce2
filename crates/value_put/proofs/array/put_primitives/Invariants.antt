use Rattle.std.proofs.Common.{◌≡◌, ◌-◌}
use Rattle.dsdl_types.specs.Schemas.{Simple}
use Rattle.line_text.specs.Buffer.{text_of}
use Rattle.value_put.specs.Counted.{counted}
use Rattle.value_put.specs.Parts.{row_told}
use Rattle.value_put.specs.Told.{Begins, told_at}
use Rattle.value_put.proofs.array.put_primitives.Given as goal

-- the text so far and that of the items that are left is that of all
abbrev pub invariant-loop-index : goal.invariant-loop-index
invariant-loop-index g l = record {
  told : told_at (row_told (Simple (g.P.Primitive.prim l.item)) (l.count - l.index) l.index) l.at l.text
      ≡ told_at (row_told (Simple (g.P.Primitive.prim l.item)) l.count 0) l.fn.at l.fn.text;
  same : counted l.at ≡ counted l.fn.at;
  front : Begins (text_of l.fn.text) (text_of l.text);
}
