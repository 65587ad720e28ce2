use Rattle.std.proofs.Common.{◌≡◌, ◌-◌, ◌≤◌, ◌==◌, true, drop}
use Rattle.dsdl_types.specs.Views.{flds, sch}
use Rattle.value_scan.specs.Written.{written}
use Rattle.value_scan.specs.Scanned.{Leaves, LeavesRow, LeavesVariant}
use Rattle.value_scan.proofs.+scan.Given as goal

-- whatever the values of the fields that are left, those of all are there
abbrev pub invariant-structures::scan_fields-loop-field : goal.invariant-structures::scan_fields-loop-field
invariant-structures::scan_fields-loop-field l = record {
  left : Leaves (drop l.fn.at l.line) (drop l.at l.line) (written l.fn.out) (written l.out) true (flds l.field-items) 0 l.first (flds (drop l.field-index l.field-items)) (l.out.place - l.start);
  past : l.start ≤ l.out.place;
  start : l.start ≡ l.fn.out.place;
}

-- so many items more, and all are there
abbrev pub invariant-arrays::scan_items-loop-index : goal.invariant-arrays::scan_items-loop-index
invariant-arrays::scan_items-loop-index l = record {
  left : LeavesRow (sch l.item) (drop l.fn.at l.line) (drop l.at l.line) (written l.fn.out) (written l.out) true l.index (l.index == 0);
  past : l.fn.out.place ≤ l.out.place;
}

-- the variant is among those that are left
abbrev pub invariant-unions::scan_variant-loop-field : goal.invariant-unions::scan_variant-loop-field
invariant-unions::scan_variant-loop-field l = record {
  left : LeavesVariant (flds l.field-items) l.tag (flds (drop l.field-index l.field-items)) l.left;
  at : l.at ≡ l.fn.at;
  out : written l.out ≡ written l.fn.out;
  past : l.fn.out.place ≤ l.out.place;
}
