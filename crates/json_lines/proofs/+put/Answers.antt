use Rattle.std.proofs.Common.{◌≡◌, ◌∙◌, ◌-◌, ◌*◌, refl, sym, ap, subst}
use Rattle.cy_bits.specs.Bits.{bits}
use Rattle.dsdl_types.specs.Reading.{own, part}
use Rattle.dsdl_types.specs.Schemas.{holding_bits, tag_bits, variants}
use Rattle.dsdl_types.specs.Views.{sch, body_of, named, type_of}
use Rattle.line_text.specs.Buffer.{text_of}
use Rattle.wire_values.specs.Reads.{behind, window_read}
use Rattle.wire_values.proofs.Readings.{behind_more, part_window}
use Rattle.wire_values.proofs.Schemata.{fixed_is}
use Rattle.value_json.specs.Json.{json_of}
use Rattle.value_json.proofs.Adding.{on_ok}
use Rattle.value_put.specs.Counted.{counted}
use Rattle.value_put.proofs.Front.{begins_same, begins_then}
use Rattle.value_put.proofs.Readings.{simple_is}
use Rattle.json_lines.specs.Typed.{Put}
use Rattle.json_lines.proofs.Fields.{field_put, fields_end, fields_next}
use Rattle.json_lines.proofs.Fields.{simple_field_put, union_put, variant_here}
use Rattle.json_lines.proofs.Types.{brackets_put, fixed_put, struct_put, window_put}
use Rattle.json_lines.proofs.Rows.{item_put, row_end, row_next, row_start}
use Rattle.json_lines.proofs.+put.Goals as goal

pub own::put_own-returns-in-Fixed-clause-put : goal.own::put_own-returns-in-Fixed-clause-put
own::put_own-returns-in-Fixed-clause-put t c =
    let p = c.args.at.now.place in
    let x = behind (counted c.args.at.now) p in
    let q = c.put_array.new.at.place in
    let y = behind (counted c.put_array.new.at) q in
    let old = text_of c.args.text.now in
    let new = text_of c.put_array.new.text in
    let is = fixed_is c.args.schema.now c.in-Fixed.item c.get.result.now c.in-Fixed.len
    c.in-Fixed.is c.get.ensures in
    on_ok c.put_array.result
    (λ r. subst (λ s. Put (λ v. json_of s v) (own s p x) old new q y) (sym is)
    (fixed_put (sch c.get.result.now) c.in-Fixed.len p x old new q y r))
    c.put_array.ensures.put

pub own::put_delimited-returns-clause-put : goal.own::put_delimited-returns-clause-put
own::put_delimited-returns-clause-put t c =
    let s = sch c.args.schema.now in
    let b = counted c.args.at.now in
    let p = c.args.at.now.place in
    let at = c.take.new.self in
    let k = at.place in
    let rest = behind_more b (counted at) p k 32 c.in_ok-count.ensures.bytes
    c.in_ok-count.ensures.place in
    let e : part s p (behind b p) ≡ window_read (own s) c.in_ok-count.count k
    (behind (counted at) k) =
    part_window s p (behind b p) c.requires ∙
    (λ i. window_read (own s) (sym c.in_ok-count.ensures.value i)
    (sym c.in_ok-count.ensures.place i) (sym rest i)) in
    let q = c.put_window.new.at.place in
    on_ok c.put_window.result
    (λ r. subst (λ z. Put (λ v. json_of s v) z (text_of c.args.text.now)
    (text_of c.put_window.new.text) q (behind (counted c.put_window.new.at) q)) (sym e) r)
    c.put_window.ensures.put

pub own::put_window-returns-clause-put : goal.own::put_window-returns-clause-put
own::put_window-returns-clause-put t c =
    let s = sch c.args.schema.now in
    let b = counted c.args.at.now in
    let p = c.args.at.now.place in
    let inner = c.in_ok-window.window in
    let is = c.in_ok-window.ensures.window in
    let q = c.put_own.new.at.place in
    let y = behind (counted c.put_own.new.at) q in
    let at = c.skip.new.self in
    let k = at.place in
    let old = text_of c.args.text.now in
    let new = text_of c.put_own.new.text in
    on_ok c.skip.result
    (λ place. window_put s c.args.count p k q (behind b p) (bits (counted inner)) y
    (behind (counted at) k) old new is.0.0 is.0.1
    (subst (λ m. Put (λ v. json_of s v) (own s m (behind (counted inner) m)) old new q y) is.1.place
    c.in_ok-put_own.ensures.put)
    place (behind_more b (counted at) p k (8 * c.args.count) c.skip.ensures.bytes place))
    c.skip.ensures.place

pub structure::put_struct-returns-clause-put : goal.structure::put_struct-returns-clause-put
structure::put_struct-returns-clause-put t c =
    let body = body_of c.args.body.now in
    let p = c.args.at.now.place in
    let q = c.put_fields.new.at.place in
    let d = counted c.put_fields.new.at in
    let at = c.align.new.self in
    let k = at.place in
    on_ok c.put_mark-2.result
    (λ e. struct_put body.0 body.1 (text_of c.args.text.now) (text_of c.put_mark.new.text)
    (text_of c.put_fields.new.text) (text_of c.put_mark-2.new.text) p q k
    (behind (counted c.args.at.now) p) (behind d q) (behind (counted at) k)
    c.in_ok-put_mark.ensures.text c.in_ok-put_fields.ensures.put c.in_ok-align.ensures.place
    (behind_more d (counted at) q k _ c.in_ok-align.ensures.bytes c.in_ok-align.ensures.place)
    e)
    c.put_mark-2.ensures.text

pub structure::put_fields-loop-field-init : goal.structure::put_fields-loop-field-init
structure::put_fields-loop-field-init t c = record {
  put = λ end place rest put. put;
  same =
      refl;
  front = begins_same _ _ refl;
}

pub structure::put_fields-loop-field-preserved : goal.structure::put_fields-loop-field-preserved
structure::put_fields-loop-field-preserved t c =
    let p = c.args.at.now.place in
    let m = c.loop-field.at.place in
    let q = c.put_field.new.at.place in
    record {
      put = fields_next c.as_slice-field-items.result.now c.loop-field.field-index
          c.field-item.result c.loop-field.first _ (text_of c.args.text.now)
          (text_of c.loop-field.text) (text_of c.put_field.new.text) p m q
          (behind (counted c.args.at.now) p) (behind (counted c.loop-field.at) m)
          (behind (counted c.put_field.new.at) q) c.loop-field-test.true c.field-item.is
          c.in_ok-first.ensures.put c.loop-field.invariant.put;
      same = c.in_ok-first.ensures.same ∙ c.loop-field.invariant.same;
      front = begins_then _ _ _ c.loop-field.invariant.front c.in_ok-first.ensures.front;
    }

pub structure::put_fields-returns-clause-put : goal.structure::put_fields-returns-clause-put
structure::put_fields-returns-clause-put t c =
    let p = c.args.at.now.place in
    let q = c.loop-field.at.place in
    fields_end c.args.body.now c.as_slice-field-items.result.now c.loop-field.field-index
    c.loop-field.first (text_of c.args.text.now) (text_of c.loop-field.text) p q
    (behind (counted c.args.at.now) p) (behind (counted c.loop-field.at) q)
    c.as_slice-field-items.ensures c.loop-field-test.false c.loop-field.invariant.put

pub structure::put_named-returns-then-is_simple-clause-put :
    goal.structure::put_named-returns-then-is_simple-clause-put
structure::put_named-returns-then-is_simple-clause-put t c =
    let f = named c.args.field.now in
    let at = c.put_simple.new.at in
    on_ok c.put_simple.result
    (λ r fs. simple_field_put f.0 f.1 fs c.args.first (counted c.args.at.now)
    (counted at) c.args.at.now.place at.place
    (text_of c.args.text.now) (text_of c.put_name.new.text) (text_of c.put_simple.new.text)
    c.requires (simple_is (type_of f.1) (c.is_simple.ensures c.if-is_simple.true))
    c.in_ok-put_name.ensures.text r)
    c.put_simple.ensures.put

pub structure::put_named-returns-clause-put : goal.structure::put_named-returns-clause-put
structure::put_named-returns-clause-put t c =
    let f = named c.args.field.now in
    on_ok c.put_part.result
    (λ r fs. field_put f.0 f.1 fs c.args.first (counted c.args.at.now)
    (counted c.go_to_begin.new.at) (counted c.put_part.new.at) c.args.at.now.place
    c.go_to_begin.new.at.place c.put_part.new.at.place
    (text_of c.args.text.now) (text_of c.put_name.new.text) (text_of c.put_part.new.text) c.requires
    c.in_ok-go_to_begin.ensures.same c.in_ok-go_to_begin.ensures.place
    c.in_ok-put_name.ensures.text r)
    c.put_part.ensures.put

pub array::put_array-returns-clause-put : goal.array::put_array-returns-clause-put
array::put_array-returns-clause-put t c =
    let p = c.args.at.now.place in
    let q = c.put_row.new.at.place in
    on_ok c.put_mark-2.result
    (λ e. brackets_put (sch c.args.item.now) c.args.count p (behind (counted c.args.at.now) p)
    (text_of c.args.text.now) (text_of c.put_mark.new.text) (text_of c.put_row.new.text)
    (text_of c.put_mark-2.new.text) q (behind (counted c.put_row.new.at) q)
    (sym c.is_uint8.ensures ∙ c.if-is_uint8.false) c.in_ok-put_mark.ensures.text
    c.in_ok-put_row.ensures.put e)
    c.put_mark-2.ensures.text

pub array::put_item-returns-clause-put : goal.array::put_item-returns-clause-put
array::put_item-returns-clause-put t c =
    let p = c.args.at.now.place in
    let q = c.put_part.new.at.place in
    on_ok c.put_part.result
    (λ r n. item_put (sch c.args.item.now) n c.args.index p q (behind (counted c.args.at.now) p)
    (behind (counted c.put_part.new.at) q)
    (text_of c.args.text.now) (text_of c.put_lead.new.text) (text_of c.put_part.new.text)
    c.in_ok-put_lead.ensures.text r)
    c.put_part.ensures.put

pub array::put_parts-loop-index-init : goal.array::put_parts-loop-index-init
array::put_parts-loop-index-init t c =
    let p = c.args.at.now.place in
    record {
      put = row_start (sch c.args.item.now) c.args.count p (behind (counted c.args.at.now) p)
          (text_of c.args.text.now);
      same = refl;
      front = begins_same _ _ refl;
    }

pub array::put_parts-loop-index-preserved : goal.array::put_parts-loop-index-preserved
array::put_parts-loop-index-preserved t c =
    let m = c.args.at.now.place in
    let p = c.loop-index.at.place in
    let q = c.put_item.new.at.place in
    record {
      put = row_next (sch c.args.item.now) c.args.count c.loop-index.index m p q
          (behind (counted c.args.at.now) m) (behind (counted c.loop-index.at) p)
          (behind (counted c.put_item.new.at) q)
          (text_of c.args.text.now) (text_of c.loop-index.text) (text_of c.put_item.new.text)
          c.loop-index-test.true c.in_ok-put_item.ensures.put c.loop-index.invariant.put;
      same = c.in_ok-put_item.ensures.same ∙ c.loop-index.invariant.same;
      front = begins_then _ _ _ c.loop-index.invariant.front c.in_ok-put_item.ensures.front;
    }

pub array::put_parts-returns-clause-put : goal.array::put_parts-returns-clause-put
array::put_parts-returns-clause-put t c =
    let p = c.args.at.now.place in
    let q = c.loop-index.at.place in
    row_end (sch c.args.item.now) c.args.count c.loop-index.index p q
    (behind (counted c.args.at.now) p) (behind (counted c.loop-index.at) q)
    (text_of c.args.text.now) (text_of c.loop-index.text)
    c.loop-index-test.false c.loop-index.invariant.put

pub variant::put_union-returns-clause-put : goal.variant::put_union-returns-clause-put
variant::put_union-returns-clause-put t c =
    let body = body_of c.args.body.now in
    let b = counted c.args.at.now in
    let p = c.args.at.now.place in
    let w = c.holding_bits.result in
    let tag = c.take.new.self in
    let k = tag.place in
    let d = counted c.put_variant.new.at in
    let q = c.put_variant.new.at.place in
    let at = c.align.new.self in
    let j = at.place in
    let is_w : w ≡ tag_bits (variants body.0) = c.holding_bits.ensures.value ∙ ap holding_bits
    (c.saturating_sub.ensures ∙ ap (λ m. m - 1) c.variants.ensures) in
    on_ok c.put_mark-2.result
    (λ e. union_put body.0 body.1 w c.in_ok-tag.tag p k q j (behind b p) (behind (counted tag) k)
    (behind d q) (behind (counted at) j)
    (text_of c.args.text.now) (text_of c.put_mark.new.text) (text_of c.put_variant.new.text)
    (text_of c.put_mark-2.new.text) is_w c.in_ok-tag.ensures.value c.in_ok-tag.ensures.place
    (behind_more b (counted tag) p k w c.in_ok-tag.ensures.bytes c.in_ok-tag.ensures.place)
    c.in_ok-put_mark.ensures.text c.in_ok-put_variant.ensures.put c.in_ok-align.ensures.place
    (behind_more d (counted at) q j _ c.in_ok-align.ensures.bytes c.in_ok-align.ensures.place) e)
    c.put_mark-2.ensures.text

pub variant::put_variant-loop-field-init : goal.variant::put_variant-loop-field-init
variant::put_variant-loop-field-init t c = record {
  put = λ end place rest put. put;
  same =
      refl;
  front = begins_same _ _ refl;
}

pub variant::put_variant-returns-then-left-eq0-clause-put :
    goal.variant::put_variant-returns-then-left-eq0-clause-put
variant::put_variant-returns-then-left-eq0-clause-put t c =
    let p = c.args.at.now.place in
    let k = c.loop-field.at.place in
    let q = c.put_part.new.at.place in
    on_ok c.put_part.result
    (λ r. variant_here c.args.body.now c.as_slice-field-items.result.now c.loop-field.field-index
    c.field-item.result c.args.tag c.loop-field.left p k (behind (counted c.args.at.now) p)
    (behind (counted c.loop-field.at) k)
    (text_of c.args.text.now) (text_of c.loop-field.text) (text_of c.put_name.new.text)
    (text_of c.put_part.new.text) q (behind (counted c.put_part.new.at) q)
    c.as_slice-field-items.ensures c.loop-field-test.true c.field-item.is
    (sym c.is_padding.ensures ∙ c.if-not-is_padding.true) c.if-left-eq0.true
    c.in_ok-put_name.ensures.text r c.loop-field.invariant.put)
    c.put_part.ensures.put
