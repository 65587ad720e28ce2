use Rattle.std.proofs.Common.{◌≡◌, ◌∙◌, ◌&&◌, Bool, true, false, drop, length, refl, sym, ap, subst, rules}
use Rattle.std.proofs.lemmas.Bool.{cases_lt, false≢true}
use Rattle.std.specs.Prelude.{codes}
use Rattle.dsdl_types.specs.Fits.{FitFields, Fits}
use Rattle.dsdl_types.specs.declared.schema.Schema.TheFolds.{the_lemmas}
use Rattle.value_text.proofs.Left.{fields_are, items_fit}
use Rattle.dsdl_types.specs.Schemas.{PBool, PUint}
use Rattle.dsdl_types.specs.Views.{kind_of, named, sch, type_of, val, vals}
use Rattle.dsdl_types.proofs.Equations.{kind_bool, kind_void}
use Rattle.value_text.specs.Texts.{are_bytes, is_uint8}
use Rattle.value_json.specs.Json.{json_of}
use Rattle.value_json.specs.Pieces.{exact}
use Rattle.value_json.specs.Words.{name_text}
use Rattle.value_json.proofs.Adding.{adds_around, adds_exact, adds_then, on_ok, towards_all}
use Rattle.value_json.proofs.Front.{begins_same, begins_then}
use Rattle.value_json.proofs.Members.{array_put, bytes_put, fields_end, fields_next, fields_left, fields_padded, fields_padded_left, items_end, items_left, items_next, primitive_of, raw_bits_of, row_put, simple_put, struct_put, union_put, value_fits, value_here, variant_put}
use Rattle.value_json.proofs.value.+json.Goals as goal
use Rattle.value_json.proofs.value.+json.Goals.{put_array-else-is_uint8-via-then-is_uint8+else-are_bytes, put_array-else-is_uint8-via-else-is_uint8}

not_second : (a b : Bool) → b ≡ false → a && b ≡ false
not_second true b h = h
not_second false b h = refl

not_first : (a b : Bool) → a ≡ false → a && b ≡ false
not_first true b h = absurd (false≢true (sym h))
not_first false b h = refl

pub put_any-put_simple-requires : goal.put_any-put_simple-requires
put_any-put_simple-requires t c = raw_bits_of c.args.schema.now PBool 1 _ (ap type_of (ap kind_of c.in-Bool.is ∙ kind_bool)) refl c.requires

pub put_any-put_simple-requires-in-Uint : goal.put_any-put_simple-requires-in-Uint
put_any-put_simple-requires-in-Uint t c =
    let p = primitive_of c.args.schema.now c.in-Uint.bits c.in-Uint.is in
    raw_bits_of c.args.schema.now p.0 c.in-Uint.bits _ p.1 p.2 c.requires

pub put_any-returns-in-Bool-clause-put : goal.put_any-returns-in-Bool-clause-put
put_any-returns-in-Bool-clause-put t c = simple_put c.put_simple.result c.args.schema.now PBool 1 _ _ _ (ap type_of (ap kind_of c.in-Bool.is ∙ kind_bool)) refl c.put_simple.ensures.put

pub put_any-put_simple-requires-in-Void : goal.put_any-put_simple-requires-in-Void
put_any-put_simple-requires-in-Void t c = raw_bits_of c.args.schema.now (PUint 0 false) 0 _ (ap type_of (ap kind_of c.in-Void.is ∙ kind_void c.in-Void.bits)) refl c.requires

pub put_any-returns-in-Void-clause-put : goal.put_any-returns-in-Void-clause-put
put_any-returns-in-Void-clause-put t c =
    simple_put c.put_simple-in-Void.result c.args.schema.now (PUint 0 false) 0 _ _ _ (ap type_of (ap kind_of c.in-Void.is ∙ kind_void c.in-Void.bits)) refl c.put_simple-in-Void.ensures.put

pub put_any-returns-in-Uint-clause-put : goal.put_any-returns-in-Uint-clause-put
put_any-returns-in-Uint-clause-put t c =
    let p = primitive_of c.args.schema.now c.in-Uint.bits c.in-Uint.is in
    simple_put c.put_simple-in-Uint.result c.args.schema.now p.0 c.in-Uint.bits _ _ _ p.1 p.2 c.put_simple-in-Uint.ensures.put

pub put_any-returns-in-Struct-clause-put : goal.put_any-returns-in-Struct-clause-put
put_any-returns-in-Struct-clause-put t c =
    struct_put c.put_struct.result c.args.schema.now c.in-Struct.body (val c.args.value.now) _ _ _ c.in-Struct.is c.fields.ensures c.put_struct.ensures.put

pub put_any-returns-in-Union-clause-put : goal.put_any-returns-in-Union-clause-put
put_any-returns-in-Union-clause-put t c =
    union_put c.put_union.result c.args.schema.now c.in-Union.body (val c.args.value.now) _ _ _ _ c.in-Union.is c.tag.ensures c.inner.ensures c.put_union.ensures.put

pub put_any-returns-in-Fixed-clause-put : goal.put_any-returns-in-Fixed-clause-put
put_any-returns-in-Fixed-clause-put t c =
    array_put c.put_array.result c.args.schema.now c.in-Fixed.item c.get.result.now (val c.args.value.now) _ _ _ c.in-Fixed.is c.get.ensures c.items.ensures c.put_array.ensures.put

pub put_array-returns-then-are_bytes-clause-put : goal.put_array-returns-then-are_bytes-clause-put
put_array-returns-then-are_bytes-clause-put t c =
    on_ok c.put_bytes.result (λ e. bytes_put (is_uint8 (sch c.args.item.now)) (λ x. json_of (sch c.args.item.now) x) (vals c.args.items.now) _ _ (sym c.if-is_uint8.ensures) (sym c.if-are_bytes.ensures) e) c.put_bytes.ensures.text

pub put_array-returns-clause-put : goal.put_array-returns-clause-put
put_array-returns-clause-put t c =
    let is_row : is_uint8 (sch c.args.item.now) && are_bytes (vals c.args.items.now) ≡ false =
    elim c.else-is_uint8.branch [
      | put_array-else-is_uint8-via-then-is_uint8+else-are_bytes w ↦ not_second _ _ (sym w.if-are_bytes.ensures)
      | put_array-else-is_uint8-via-else-is_uint8 w ↦ not_first _ _ (sym w.if-is_uint8.ensures)
    ] in
    on_ok c.put_word-2.result (λ e. row_put (is_uint8 (sch c.args.item.now)) (λ x. json_of (sch c.args.item.now) x) (vals c.args.items.now) _ _ is_row
    (adds_around (codes "[") (codes "]") _ _ _ _ _ c.in_ok-put_word.ensures.text c.in_ok-put_items.ensures.put e)) c.put_word-2.ensures.text

pub put_fields-loop-field-init : goal.put_fields-loop-field-init
put_fields-loop-field-init t c =
    record {
      fit = subst (λ fs. FitFields fs (vals c.args.values.now)) (fields_are c.args.body.now c.as_slice-field-items.result.now c.as_slice-field-items.ensures) c.requires;
      put = towards_all _ _ _ refl;
      front = begins_same _ _ refl;
    }

pub put_fields-loop-field-preserved-then-is_padding : goal.put_fields-loop-field-preserved-then-is_padding
put_fields-loop-field-preserved-then-is_padding t c =
    let items = c.as_slice-field-items.result.now in
    let i = c.loop-field.field-index in
    let x = c.field-item.result in
    let n = c.loop-field.next in
    let left = vals (drop n c.args.values.now) in
    record {
      fit = fields_padded_left items i x left c.loop-field-test.true c.field-item.is (sym c.if-is_padding.ensures) c.loop-field.invariant.fit;
      put = fields_padded _ items i x n left _ _ c.loop-field-test.true c.field-item.is (sym c.if-is_padding.ensures) c.loop-field.invariant.put;
      front = c.loop-field.invariant.front;
    }

pub put_fields-loop-field-preserved : goal.put_fields-loop-field-preserved
put_fields-loop-field-preserved t c =
    let items = c.as_slice-field-items.result.now in
    let i = c.loop-field.field-index in
    let x = c.field-item.result in
    let n = c.loop-field.next in
    let values = c.args.values.now in
    let typed = sym c.if-is_padding.ensures in
    let there = value_here items i x n values c.loop-field-test.true c.field-item.is typed c.loop-field.invariant.fit (cases_lt n (length values)) in
    let y = c.index-values-next.result in
    record {
      fit = fields_left items i x n values y c.loop-field-test.true c.field-item.is typed there c.index-values-next.is c.loop-field.invariant.fit;
      put = fields_next _ items i x n values y _ _ _ _ c.loop-field-test.true c.field-item.is typed there c.index-values-next.is c.loop-field.invariant.put c.in_ok-put_lead.ensures.put c.in_ok-put_member.ensures.put;
      front = begins_then _ _ _ c.loop-field.invariant.front (begins_then _ _ _ c.in_ok-put_lead.ensures.front c.in_ok-put_member.ensures.front);
    }

pub put_fields-returns-clause-put : goal.put_fields-returns-clause-put
put_fields-returns-clause-put t c =
    fields_end c.args.body.now c.as_slice-field-items.result.now c.loop-field.field-index c.loop-field.next (vals c.args.values.now) _ _ _ c.as_slice-field-items.ensures c.loop-field-test.false c.loop-field.invariant.put

pub put_items-loop-i-init : goal.put_items-loop-i-init
put_items-loop-i-init t c =
    record { fit = c.requires; put = towards_all _ _ _ refl; front = begins_same _ _ refl }

pub put_items-loop-i-preserved : goal.put_items-loop-i-preserved
put_items-loop-i-preserved t c =
    let items = c.args.items.now in
    let i = c.loop-i.i in
    let x = c.index-items-i.result in
    let s = sch c.args.item.now in
    record {
      fit = (items_left (λ y. Fits s y) items i x c.loop-i-test.true c.index-items-i.is c.loop-i.invariant.fit).1;
      put = items_next _ (λ y. json_of s y) items i x _ _ _ _ c.loop-i-test.true c.index-items-i.is c.loop-i.invariant.put c.in_ok-put_lead.ensures.put c.in_ok-put_any.ensures.put;
      front = begins_then _ _ _ c.loop-i.invariant.front (begins_then _ _ _ c.in_ok-put_lead.ensures.front c.in_ok-put_any.ensures.front);
    }

pub put_items-returns-clause-put : goal.put_items-returns-clause-put
put_items-returns-clause-put t c = items_end _ (λ y. json_of (sch c.args.item.now) y) c.args.items.now c.loop-i.i _ _ c.loop-i-test.false c.loop-i.invariant.put

pub put_member-returns-clause-put : goal.put_member-returns-clause-put
put_member-returns-clause-put t c = on_ok c.put_any.result (λ a. adds_then (exact (name_text (named c.args.field.now).0)) _ _ _ _ (adds_exact _ _ _ c.in_ok-put_name.ensures.text) a) c.put_any.ensures.put

pub put_struct-returns-clause-put : goal.put_struct-returns-clause-put
put_struct-returns-clause-put t c =
    on_ok c.put_word-2.result (λ e. adds_around (codes "{") (codes "}") _ _ _ _ _ c.in_ok-put_word.ensures.text c.in_ok-put_fields.ensures.put e) c.put_word-2.ensures.text

pub put_union-returns-clause-put : goal.put_union-returns-clause-put
put_union-returns-clause-put t c =
    on_ok c.put_word-2.result (λ e. adds_around (codes "{") (codes "}") _ _ _ _ _ c.in_ok-put_word.ensures.text c.in_ok-put_variant.ensures.put e) c.put_word-2.ensures.text

pub put_variant-returns-then-left-eq0-clause-put : goal.put_variant-returns-then-left-eq0-clause-put
put_variant-returns-then-left-eq0-clause-put t c =
    variant_put c.put_member.result c.args.body.now c.as_slice-field-items.result.now c.loop-field.field-index c.field-item.result c.loop-field.left c.args.tag (val c.args.value.now) _ _ _ c.loop-field.invariant.same
    c.as_slice-field-items.ensures c.loop-field-test.true c.field-item.is c.if-left-eq0.true (sym c.if-not-is_padding.ensures) c.loop-field.invariant.member c.put_member.ensures.put

pub put_any-put_array-requires : goal.put_any-put_array-requires
put_any-put_array-requires t c =
    let fit = items_fit c.args.schema.now c.in-Fixed.item c.get.result.now (val c.args.value.now) _ c.in-Fixed.is c.get.ensures c.requires c.items.ensures in
    (search (rules, the_lemmas), fit)

pub put_fields-put_member-requires : goal.put_fields-put_member-requires
put_fields-put_member-requires t c =
    let items = c.as_slice-field-items.result.now in
    let i = c.loop-field.field-index in
    let x = c.field-item.result in
    let n = c.loop-field.next in
    let values = c.args.values.now in
    let typed = sym c.if-is_padding.ensures in
    let there = value_here items i x n values c.loop-field-test.true c.field-item.is typed c.loop-field.invariant.fit (cases_lt n (length values)) in
    let fit = value_fits items i x n values c.index-values-next.result c.loop-field-test.true c.field-item.is typed there c.index-values-next.is c.loop-field.invariant.fit in
    (search (rules, the_lemmas), fit)
