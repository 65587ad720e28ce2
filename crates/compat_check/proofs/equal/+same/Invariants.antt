use Rattle.std.proofs.Common.{◌≡◌, length}
use Rattle.std.specs.Slice.Iter.{iter_rest}
use Rattle.dsdl_types.specs.Difference.{same_fields}
use Rattle.dsdl_types.specs.Views.{body_of, flds}
use Rattle.compat_check.proofs.equal.+same.Given as goal

-- as many fields of each are left, and all are equal where these are
abbrev pub invariant-same_fields-loop-field : goal.invariant-same_fields-loop-field
invariant-same_fields-loop-field l =
    (length (iter_rest l.field-iterator.a) ≡ length (iter_rest l.field-iterator.b))
    × (same_fields (flds (iter_rest l.field-iterator.a)) (flds (iter_rest l.field-iterator.b)) ≡ same_fields (body_of l.a).0 (body_of l.b).0)
