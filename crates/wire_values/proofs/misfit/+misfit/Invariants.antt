use Rattle.std.proofs.Common.{◌≡◌, drop}
use Rattle.dsdl_types.specs.Schemas.{variants}
use Rattle.dsdl_types.specs.Values.{count}
use Rattle.dsdl_types.specs.Views.{sch, flds, val, vals}
use Rattle.wire_values.specs.Misfits.{first_misfit, misfit, misfit_fields, misfit_variant}
use Rattle.wire_values.specs.Rules.{HaveRules}
use Rattle.wire_values.proofs.misfit.+misfit.Given as goal

-- the first misfit is among the items that are left
abbrev pub invariant-items_misfit-loop-i : goal.invariant-items_misfit-loop-i
invariant-items_misfit-loop-i l =
    first_misfit (λ x. misfit (sch l.item) x) l.i (vals (drop l.i l.items)) ≡ first_misfit (λ x. misfit (sch l.item) x) 0 (vals l.items)

-- the first misfit is among the fields that are left
abbrev pub invariant-fields_misfit-loop-field : goal.invariant-fields_misfit-loop-field
invariant-fields_misfit-loop-field l = record {
  rules : HaveRules (flds (drop l.field-index l.field-items));
  whole : count (vals (drop l.next l.values)) ≡ variants (flds (drop l.field-index l.field-items));
  same : misfit_fields (flds (drop l.field-index l.field-items)) (vals (drop l.next l.values)) ≡ misfit_fields (flds l.field-items) (vals l.values);
}

-- the variant is among those that are left
abbrev pub invariant-variant_misfit-loop-field : goal.invariant-variant_misfit-loop-field
invariant-variant_misfit-loop-field l = record {
  rules : HaveRules (flds (drop l.field-index l.field-items));
  same : misfit_variant (flds (drop l.field-index l.field-items)) l.left (val l.value) ≡ misfit_variant (flds l.field-items) l.tag (val l.value);
}
