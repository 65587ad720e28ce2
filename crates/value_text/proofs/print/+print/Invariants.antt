use Rattle.std.proofs.Common.{◌≡◌, ◌++◌, ◌==◌, drop, string_bytes}
use Rattle.dsdl_types.specs.Fits.{Fits, FitFields, FitsVariant, AllOf}
use Rattle.dsdl_types.specs.Views.{flds, sch, val, vals}
use Rattle.value_text.specs.Words.{separated}
use Rattle.value_text.specs.Texts.{field_texts, texts, value_text, variant_text}
use Rattle.value_text.proofs.Rest.{rest_of}
use Rattle.value_text.proofs.print.+print.Given as goal

-- the text so far and those of the fields that are left are the texts of all
abbrev pub invariant-push_fields-loop-field : goal.invariant-push_fields-loop-field
invariant-push_fields-loop-field l = record {
  fit : FitFields (flds (drop l.field-index l.field-items)) (vals (drop l.next l.values));
  text : string_bytes l.text ++ rest_of (l.next == 0) (field_texts (flds (drop l.field-index l.field-items)) (vals (drop l.next l.values))) ≡ string_bytes l.initial.text ++ separated (field_texts (flds l.field-items) (vals l.values));
}

-- the text so far and those of the items that are left are the texts of all
abbrev pub invariant-push_items-loop-i : goal.invariant-push_items-loop-i
invariant-push_items-loop-i l = record {
  fit : AllOf (λ x. Fits (sch l.item) x) (vals (drop l.i l.items));
  text : string_bytes l.text ++ rest_of (l.i == 0) (texts (λ x. value_text (sch l.item) x) (vals (drop l.i l.items))) ≡ string_bytes l.initial.text ++ separated (texts (λ x. value_text (sch l.item) x) (vals l.items));
}

-- the variant is among those that are left
abbrev pub invariant-push_variant-loop-field : goal.invariant-push_variant-loop-field
invariant-push_variant-loop-field l = record {
  same : string_bytes l.text ≡ string_bytes l.initial.text;
  fit : FitsVariant (flds (drop l.field-index l.field-items)) l.left (val l.value);
  text : variant_text (flds (drop l.field-index l.field-items)) l.left (val l.value) ≡ variant_text (flds l.field-items) l.tag (val l.value);
}
