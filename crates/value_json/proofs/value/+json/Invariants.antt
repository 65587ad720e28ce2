use Rattle.std.proofs.Common.{◌≡◌, ◌==◌, drop}
use Rattle.dsdl_types.specs.Fits.{AllOf, FitFields, Fits, FitsVariant}
use Rattle.dsdl_types.specs.Views.{flds, sch, val, vals}
use Rattle.line_text.specs.Buffer.{text_of}
use Rattle.value_json.specs.Json.{field_members, json_of, texts, variant_member}
use Rattle.value_json.specs.Pieces.{Begins}
use Rattle.value_json.specs.Words.{rest_of, separated}
use Rattle.value_json.proofs.Adding.{Towards}
use Rattle.value_json.proofs.value.+json.Given as goal

-- the fields so far were put, and others are left
abbrev pub invariant-put_fields-loop-field : goal.invariant-put_fields-loop-field
invariant-put_fields-loop-field l = record {
  fit : FitFields (flds (drop l.field-index l.field-items)) (vals (drop l.next l.values));
  put : Towards (separated (field_members (flds l.field-items) (vals l.values)))
      (rest_of (l.next == 0) (field_members (flds (drop l.field-index l.field-items)) (vals (drop l.next l.values)))) (text_of l.initial.text) (text_of l.text);
  front : Begins (text_of l.initial.text) (text_of l.text);
}

-- the items so far were put, and others are left
abbrev pub invariant-put_items-loop-i : goal.invariant-put_items-loop-i
invariant-put_items-loop-i l = record {
  fit : AllOf (λ x. Fits (sch l.item) x) (vals (drop l.i l.items));
  put : Towards (separated (texts (λ x. json_of (sch l.item) x) (vals l.items)))
      (rest_of (l.i == 0) (texts (λ x. json_of (sch l.item) x) (vals (drop l.i l.items)))) (text_of l.initial.text) (text_of l.text);
  front : Begins (text_of l.initial.text) (text_of l.text);
}

-- the variant is among those that are left
abbrev pub invariant-put_variant-loop-field : goal.invariant-put_variant-loop-field
invariant-put_variant-loop-field l = record {
  same : text_of l.text ≡ text_of l.initial.text;
  fit : FitsVariant (flds (drop l.field-index l.field-items)) l.left (val l.value);
  member : variant_member (flds (drop l.field-index l.field-items)) l.left (val l.value) ≡ variant_member (flds l.field-items) l.tag (val l.value);
}
