use Rattle.std.proofs.Common.{◌≡◌, ◌-◌}
use Rattle.dsdl_types.specs.Reading.{part, row}
use Rattle.dsdl_types.specs.Schemas.{Simple}
use Rattle.line_text.specs.Buffer.{text_of}
use Rattle.value_put.specs.Counted.{counted}
use Rattle.value_put.specs.Told.{Begins}
use Rattle.json_lines.specs.Typed.{Leaves, items_of, read_at}
use Rattle.json_lines.proofs.array.put_primitives.Given as goal

-- wherever the items that are left end, all end there
abbrev pub invariant-loop-index : goal.invariant-loop-index
invariant-loop-index g l = record {
  put : Leaves
      (items_of (Simple (g.P.JsonPrimitive.kind l.item)) 0)
      (read_at (row (part (Simple (g.P.JsonPrimitive.kind l.item))) l.count 0) l.fn.at)
      (text_of l.fn.text)
      (items_of (Simple (g.P.JsonPrimitive.kind l.item)) l.index)
      (read_at (row (part (Simple (g.P.JsonPrimitive.kind l.item))) (l.count - l.index) l.index)
      l.at)
      (text_of l.text);
  same : counted l.at ≡ counted l.fn.at;
  front : Begins (text_of l.fn.text) (text_of l.text);
}
