use Rattle.std.proofs.Common.{◌≡◌}
use Rattle.std.specs.Slice.Iter.{iter_rest}
use Rattle.dsdl_types.specs.Difference.{difference_fields}
use Rattle.dsdl_types.specs.Views.{body_of, flds}
use Rattle.compat_check.proofs.compare.+difference.Given as goal

-- the first difference is in the fields that are left
abbrev pub invariant-fields_difference-loop-field : goal.invariant-fields_difference-loop-field
invariant-fields_difference-loop-field l =
    difference_fields (flds (iter_rest l.field-iterator.a)) (flds (iter_rest l.field-iterator.b)) ≡ difference_fields (body_of l.new).0 (body_of l.old).0
