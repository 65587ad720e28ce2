use Rattle.std.proofs.Common.{◌≡◌, ◌-◌, true, drop}
use Rattle.dsdl_types.specs.Views.{flds, sch}
use Rattle.line_text.specs.Buffer.{text_of}
use Rattle.value_put.specs.Counted.{counted}
use Rattle.value_put.specs.Parts.{fields_told, row_told, variant_told}
use Rattle.value_put.specs.Told.{Begins, told_at}
use Rattle.value_put.proofs.+put.Given as goal

-- the text so far and that of the fields that are left is that of all
abbrev pub invariant-structure::put_fields-loop-field : goal.invariant-structure::put_fields-loop-field
invariant-structure::put_fields-loop-field l = record {
  told : told_at (fields_told l.first (flds (drop l.field-index l.field-items))) l.at l.text
      ≡ told_at (fields_told true (flds l.field-items)) l.fn.at l.fn.text;
  same : counted l.at ≡ counted l.fn.at;
  front : Begins (text_of l.fn.text) (text_of l.text);
}

-- the text so far and that of the items that are left is that of all
abbrev pub invariant-array::put_parts-loop-index : goal.invariant-array::put_parts-loop-index
invariant-array::put_parts-loop-index l = record {
  told : told_at (row_told (sch l.item) (l.count - l.index) l.index) l.at l.text
      ≡ told_at (row_told (sch l.item) l.count 0) l.fn.at l.fn.text;
  same : counted l.at ≡ counted l.fn.at;
  front : Begins (text_of l.fn.text) (text_of l.text);
}

-- the variant is among those that are left
abbrev pub invariant-variant::put_variant-loop-field : goal.invariant-variant::put_variant-loop-field
invariant-variant::put_variant-loop-field l = record {
  told : told_at (variant_told (flds (drop l.field-index l.field-items)) l.tag l.left) l.at l.text
      ≡ told_at (variant_told (flds l.field-items) l.tag l.tag) l.fn.at l.fn.text;
  same : counted l.at ≡ counted l.fn.at;
  front : Begins (text_of l.fn.text) (text_of l.text);
}
