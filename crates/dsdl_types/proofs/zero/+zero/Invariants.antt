use Rattle.std.proofs.Common.{◌≡◌, ◌-◌, drop}
use Rattle.dsdl_types.specs.Values.{same_items, join}
use Rattle.dsdl_types.specs.Zero.{zero_of, zero_fields, zero_variant}
use Rattle.dsdl_types.specs.Views.{sch, vals, flds}
use Rattle.dsdl_types.proofs.zero.+zero.Given as goal

-- the zeros so far and those of the fields that are left are the zeros of all
abbrev pub invariant-zero_fields-loop-field : goal.invariant-zero_fields-loop-field
invariant-zero_fields-loop-field l =
    join (vals l.values.items) (zero_fields (flds (drop l.field-index l.field-items))) ≡ zero_fields (flds l.field-items)

-- the first variant is among those that are left
abbrev pub invariant-zero_variant-loop-field : goal.invariant-zero_variant-loop-field
invariant-zero_variant-loop-field l = zero_variant (flds (drop l.field-index l.field-items)) ≡ zero_variant (flds l.field-items)

-- the zeros so far and as many as are left are all
abbrev pub invariant-zeros-loop : goal.invariant-zeros-loop
invariant-zeros-loop l =
    join (vals l.values.items) (same_items (l.len - l.counter) (zero_of (sch l.schema))) ≡ same_items l.len (zero_of (sch l.schema))
