use Rattle.std.proofs.Common.{◌≡◌}
use Rattle.std.specs.Slice.Iter.{iter_rest}
use Rattle.dsdl_types.specs.Views.{body_of, flds}
use Rattle.type_changes.specs.Names.{same_field_names}
use Rattle.type_changes.proofs.names.+names.Given as goal

-- the fields that are left have the same names where all have
abbrev pub invariant-same_field_names-loop-field : goal.invariant-same_field_names-loop-field
invariant-same_field_names-loop-field l =
    same_field_names (flds (iter_rest l.field-iterator.a)) (flds (iter_rest l.field-iterator.b)) ≡ same_field_names (body_of l.new).0 (body_of l.old).0
