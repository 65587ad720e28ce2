use Rattle.std.proofs.Common.{◌≡◌, ◌-◌, true, drop}
use Rattle.dsdl_types.specs.Reading.{fields, part, row, variant}
use Rattle.dsdl_types.specs.Views.{flds, sch}
use Rattle.line_text.specs.Buffer.{text_of}
use Rattle.value_put.specs.Counted.{counted}
use Rattle.value_put.specs.Told.{Begins}
use Rattle.json_lines.specs.Typed.{Leaves, items_of, members_of, read_at, variant_of}
use Rattle.json_lines.proofs.+put.Given as goal

-- wherever the fields that are left end, all end there
abbrev pub invariant-structure::put_fields-loop-field :
    goal.invariant-structure::put_fields-loop-field
invariant-structure::put_fields-loop-field l = record {
  put : Leaves
      (members_of true (flds l.field-items)) (read_at (fields (flds l.field-items)) l.fn.at)
      (text_of l.fn.text)
      (members_of l.first (flds (drop l.field-index l.field-items)))
      (read_at (fields (flds (drop l.field-index l.field-items))) l.at) (text_of l.text);
  same : counted l.at ≡ counted l.fn.at;
  front : Begins (text_of l.fn.text) (text_of l.text);
}

-- wherever the items that are left end, all end there
abbrev pub invariant-array::put_parts-loop-index : goal.invariant-array::put_parts-loop-index
invariant-array::put_parts-loop-index l = record {
  put : Leaves
      (items_of (sch l.item) 0) (read_at (row (part (sch l.item)) l.count 0) l.fn.at)
      (text_of l.fn.text)
      (items_of (sch l.item) l.index)
      (read_at (row (part (sch l.item)) (l.count - l.index) l.index) l.at) (text_of l.text);
  same : counted l.at ≡ counted l.fn.at;
  front : Begins (text_of l.fn.text) (text_of l.text);
}

-- the variant is among those that are left
abbrev pub invariant-variant::put_variant-loop-field :
    goal.invariant-variant::put_variant-loop-field
invariant-variant::put_variant-loop-field l = record {
  put : Leaves
      (variant_of (flds l.field-items) l.tag)
      (read_at (variant (flds l.field-items) l.tag l.tag) l.fn.at)
      (text_of l.fn.text)
      (variant_of (flds (drop l.field-index l.field-items)) l.left)
      (read_at (variant (flds (drop l.field-index l.field-items)) l.tag l.left) l.at)
      (text_of l.text);
  same : counted l.at ≡ counted l.fn.at;
  front : Begins (text_of l.fn.text) (text_of l.text);
}
