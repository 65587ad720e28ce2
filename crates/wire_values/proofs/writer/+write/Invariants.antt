use Rattle.std.proofs.Common.{◌≡◌, ◌%◌, true, drop}
use Rattle.dsdl_types.specs.Encoding.{each, field_bits, part_bits, variant_bits}
use Rattle.dsdl_types.specs.Fits.{AllOf, Fits, FitsVariant}
use Rattle.dsdl_types.specs.Schemas.{is_aligned}
use Rattle.dsdl_types.specs.Views.{sch, flds, val, vals}
use Rattle.wire_values.specs.Rules.{HaveRules}
use Rattle.wire_values.proofs.Writings.{FieldsLeft, Left}
use Rattle.wire_values.proofs.writer.+write.Given as goal

-- with the items that are left all are written
abbrev pub invariant-write_items-loop-value : goal.invariant-write_items-loop-value
invariant-write_items-loop-value l = record {
  fit : AllOf (λ x. Fits (sch l.item) x) (vals (drop l.value-index l.values));
  whole : is_aligned (sch l.item) ≡ true → l.to.place % 8 ≡ 0;
  left : Left l.fn.out l.fn.to.place l.out l.to.place (each (λ x. part_bits (sch l.item) x) (vals l.values)) (each (λ x. part_bits (sch l.item) x) (vals (drop l.value-index l.values)));
}

-- with the fields that are left all are written
abbrev pub invariant-write_fields-loop-field : goal.invariant-write_fields-loop-field
invariant-write_fields-loop-field l =
    FieldsLeft l.fn.out l.fn.to.place (field_bits (flds l.field-items) 0 (vals l.values)) (flds (drop l.field-index l.field-items)) (vals (drop l.next l.values)) l.out l.to.place

-- the variant is among those that are left
abbrev pub invariant-write_variant-loop-field : goal.invariant-write_variant-loop-field
invariant-write_variant-loop-field l = record {
  rules : HaveRules (flds (drop l.field-index l.field-items));
  fit : FitsVariant (flds (drop l.field-index l.field-items)) l.left (val l.value);
  same : variant_bits (flds (drop l.field-index l.field-items)) l.left (val l.value) ≡ variant_bits (flds l.field-items) l.tag (val l.value);
  out : l.out ≡ l.fn.out;
  place : l.to.place ≡ l.fn.to.place;
}
