use Rattle.std.proofs.Common.{◌≡◌, ◌+◌, ◌≤◌, drop}
use Rattle.dsdl_types.specs.Schemas.{variants}
use Rattle.dsdl_types.specs.Views.{flds}
use Rattle.wire_values.proofs.parts.variants.Given as goal

-- the fields so far and those that are left are all
abbrev pub invariant-loop-field : goal.invariant-loop-field
invariant-loop-field l = record {
  count : l.count + variants (flds (drop l.field-index l.field-items)) ≡ variants (flds l.field-items);
  few : l.count ≤ l.field-index;
}
