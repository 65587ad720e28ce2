use Rattle.std.proofs.Common.{◌≡◌, ◌*◌, ◌-◌, ◌%◌, ◌≤◌, true, drop}
use Rattle.dsdl_types.specs.Reach.{header_or, reach, reach_fields, reach_variant}
use Rattle.dsdl_types.specs.Reading.{part, row, fields, variant}
use Rattle.dsdl_types.specs.Schemas.{is_aligned, is_delimited}
use Rattle.dsdl_types.specs.Views.{sch, flds, vals}
use Rattle.wire_values.specs.Reads.{Near, behind, with_front}
use Rattle.wire_values.specs.Rules.{HaveRules}
use Rattle.wire_values.proofs.reader.+read.Given as goal

-- the values so far and those of the fields that are left are those of all
abbrev pub invariant-read_fields-loop-field : goal.invariant-read_fields-loop-field
invariant-read_fields-loop-field l = record {
  reads : with_front (vals l.values.items) (fields (flds (drop l.field-index l.field-items)) l.at.place (behind l.at.bytes l.at.place))
      ≡ fields (flds l.field-items) l.fn.at.place (behind l.fn.at.bytes l.fn.at.place);
  same : l.at.bytes ≡ l.fn.at.bytes;
  rules : HaveRules (flds (drop l.field-index l.field-items));
  near : Near l.at.bytes l.at.place (reach_fields (flds (drop l.field-index l.field-items)));
}

-- the items so far and those that are left are all
abbrev pub invariant-read_row-loop-index : goal.invariant-read_row-loop-index
invariant-read_row-loop-index l = record {
  reads : with_front (vals l.values.items) (row (part (sch l.item)) (l.count - l.index) l.index l.at.place (behind l.at.bytes l.at.place))
      ≡ row (part (sch l.item)) l.count 0 l.fn.at.place (behind l.fn.at.bytes l.fn.at.place);
  same : l.at.bytes ≡ l.fn.at.bytes;
  whole : is_aligned (sch l.item) ≡ true → l.at.place % 8 ≡ 0;
  near : Near l.at.bytes l.at.place ((l.count - l.index) * header_or (is_delimited (sch l.item)) (reach (sch l.item)));
}

-- the variant is among those that are left
abbrev pub invariant-read_variant-loop-field : goal.invariant-read_variant-loop-field
invariant-read_variant-loop-field l = record {
  reads : variant (flds (drop l.field-index l.field-items)) l.tag l.left l.fn.at.place (behind l.fn.at.bytes l.fn.at.place)
      ≡ variant (flds l.field-items) l.tag l.tag l.fn.at.place (behind l.fn.at.bytes l.fn.at.place);
  place : l.at.place ≡ l.fn.at.place;
  same : l.at.bytes ≡ l.fn.at.bytes;
  rules : HaveRules (flds (drop l.field-index l.field-items));
  near : reach_variant (flds (drop l.field-index l.field-items)) ≤ reach_variant (flds l.field-items);
}
