use Rattle.std.proofs.Common.{◌≡◌, ◌≤◌, ◌==◌, drop, length}
use Rattle.dsdl_types.specs.Fits.{Fits, AllOf}
use Rattle.dsdl_types.specs.Values.{count}
use Rattle.dsdl_types.specs.Views.{flds, sch, vals}
use Rattle.value_text.proofs.ReadItems.{ItemsLeft}
use Rattle.value_text.proofs.ReadFields.{FieldsRead}
use Rattle.value_text.proofs.ReadVariants.{VariantsTried}
use Rattle.value_text.proofs.read.+read.Given as goal

-- the items so far are read, and the others are left
abbrev pub invariant-items_at-loop-i : goal.invariant-items_at-loop-i
invariant-items_at-loop-i l = record {
  most : l.i ≤ l.len;
  made : count (vals l.values.items) ≡ l.i;
  all : AllOf (λ x. Fits (sch l.item) x) (vals l.values.items);
  left : ItemsLeft (sch l.item) l.exact l.len (vals l.values.items) (l.i == 0) (drop l.initial.at l.line) (drop l.at l.line);
}

-- the fields so far are read, and the others are left
abbrev pub invariant-fields_at-loop-field : goal.invariant-fields_at-loop-field
invariant-fields_at-loop-field l =
    FieldsRead (flds l.field-items) (vals l.values.items) (length l.values.items == 0) (flds (drop l.field-index l.field-items)) (drop l.initial.at l.line) (drop l.at l.line)

-- no variant so far has the name
abbrev pub invariant-variant_at-loop-field : goal.invariant-variant_at-loop-field
invariant-variant_at-loop-field l = record {
  same : drop l.at l.line ≡ drop l.initial.at l.line;
  tried : VariantsTried (flds l.field-items) l.tag (flds (drop l.field-index l.field-items)) (drop l.initial.at l.line);
}
