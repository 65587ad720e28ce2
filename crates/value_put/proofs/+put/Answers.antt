use Rattle.std.proofs.Common.{◌≡◌, ◌∙◌, ◌++◌, ◌-◌, ◌*◌, refl, sym, ap, subst}
use Rattle.cy_bits.specs.Bits.{bits}
use Rattle.dsdl_types.specs.Reading.{own, part}
use Rattle.dsdl_types.specs.Schemas.{holding_bits, tag_bits, variants}
use Rattle.dsdl_types.specs.Views.{sch, body_of, flds, named, type_of}
use Rattle.line_text.specs.Buffer.{text_of}
use Rattle.wire_values.specs.Reads.{behind, window_read}
use Rattle.wire_values.proofs.Readings.{behind_more, part_window}
use Rattle.wire_values.proofs.Schemata.{fixed_is, fields_are}
use Rattle.value_text.specs.Texts.{value_text}
use Rattle.value_text.specs.Words.{lead}
use Rattle.value_put.specs.Counted.{counted}
use Rattle.value_put.specs.Parts.{own_told, row_told, variant_told}
use Rattle.value_put.specs.Told.{Yes, told, after, told_at}
use Rattle.value_put.proofs.Fields.{told_end, told_field, told_simple_field}
use Rattle.value_put.proofs.Front.{begins_then}
use Rattle.value_put.proofs.Readings.{on_ok, simple_is, told_struct, told_window}
use Rattle.value_put.proofs.Rows.{row_end, row_next, told_fixed, told_item}
use Rattle.value_put.proofs.Variants.{told_here, told_union}
use Rattle.value_put.proofs.+put.Goals as goal

pub own::put_own-returns-in-Fixed-clause-told : goal.own::put_own-returns-in-Fixed-clause-told
own::put_own-returns-in-Fixed-clause-told t c =
    let p = c.args.at.now.place in
    let x = behind (counted c.args.at.now) p in
    let q = c.put_array.new.at.place in
    let y = behind (counted c.put_array.new.at) q in
    let old = text_of c.args.text.now in
    let is = fixed_is c.args.schema.now c.in-Fixed.item c.get.result.now c.in-Fixed.len c.in-Fixed.is c.get.ensures in
    on_ok c.put_array.result
    (λ e. subst (λ s. after old (own_told s p x) ≡ Yes (text_of c.put_array.new.text) q y) (sym is) (told_fixed (sch c.get.result.now) c.in-Fixed.len old p x ∙ e))
    c.put_array.ensures.told

pub own::put_delimited-returns-clause-told : goal.own::put_delimited-returns-clause-told
own::put_delimited-returns-clause-told t c =
    let s = sch c.args.schema.now in
    let b = counted c.args.at.now in
    let p = c.args.at.now.place in
    let at = c.take.new.self in
    let k = at.place in
    let rest = behind_more b (counted at) p k 32 c.in_ok-count.ensures.bytes c.in_ok-count.ensures.place in
    let e : part s p (behind b p) ≡ window_read (own s) c.in_ok-count.count k (behind (counted at) k) =
    part_window s p (behind b p) c.requires ∙ (λ i. window_read (own s) (sym c.in_ok-count.ensures.value i) (sym c.in_ok-count.ensures.place i) (sym rest i)) in
    on_ok c.put_window.result
    (λ h. ap (λ r. after (text_of c.args.text.now) (told (λ v. value_text s v) r)) e ∙ h)
    c.put_window.ensures.told

pub own::put_window-returns-clause-told : goal.own::put_window-returns-clause-told
own::put_window-returns-clause-told t c =
    let s = sch c.args.schema.now in
    let b = counted c.args.at.now in
    let p = c.args.at.now.place in
    let inner = c.in_ok-window.window in
    let is = c.in_ok-window.ensures.window in
    let q = c.put_own.new.at.place in
    let y = behind (counted c.put_own.new.at) q in
    let at = c.skip.new.self in
    let k = at.place in
    let old = text_of c.args.text.now in
    let new = text_of c.put_own.new.text in
    on_ok c.skip.result
    (λ place. told_window s c.args.count p k q (behind b p) (bits (counted inner)) y (behind (counted at) k) old new is.0.0 is.0.1
    (subst (λ m. after old (own_told s m (behind (counted inner) m)) ≡ Yes new q y) is.1.place c.in_ok-put_own.ensures.told)
    place (behind_more b (counted at) p k (8 * c.args.count) c.skip.ensures.bytes place))
    c.skip.ensures.place

pub structure::put_struct-returns-clause-told : goal.structure::put_struct-returns-clause-told
structure::put_struct-returns-clause-told t c =
    let body = body_of c.args.body.now in
    let p = c.args.at.now.place in
    let q = c.put_fields.new.at.place in
    let d = counted c.put_fields.new.at in
    let at = c.align.new.self in
    let k = at.place in
    on_ok c.put_mark-2.result
    (λ e. told_struct body.0 body.1 (text_of c.args.text.now) (text_of c.put_mark.new.text) (text_of c.put_fields.new.text) (text_of c.put_mark-2.new.text) p q k (behind (counted c.args.at.now) p) (behind d q) (behind (counted at) k)
    c.in_ok-put_mark.ensures.text c.in_ok-put_fields.ensures.told c.in_ok-align.ensures.place (behind_more d (counted at) q k _ c.in_ok-align.ensures.bytes c.in_ok-align.ensures.place) e)
    c.put_mark-2.ensures.text

pub structure::put_fields-returns-clause-told : goal.structure::put_fields-returns-clause-told
structure::put_fields-returns-clause-told t c =
    let p = c.args.at.now.place in
    let q = c.loop-field.at.place in
    told_end c.args.body.now c.as_slice-field-items.result.now c.loop-field.field-index c.loop-field.first (text_of c.args.text.now) (text_of c.loop-field.text) p q
    (behind (counted c.args.at.now) p) (behind (counted c.loop-field.at) q) c.as_slice-field-items.ensures c.loop-field-test.false c.loop-field.invariant.told

pub structure::put_named-returns-then-is_simple-clause-put : goal.structure::put_named-returns-then-is_simple-clause-put
structure::put_named-returns-then-is_simple-clause-put t c =
    let f = named c.args.field.now in
    let old = text_of c.args.text.now in
    let at = c.put_simple.new.at in
    on_ok c.put_simple.result
    (λ e fs. told_simple_field f.0 f.1 fs c.args.first (counted c.args.at.now) (counted at) c.args.at.now.place at.place
    old (old ++ lead c.args.first) (text_of c.put_name.new.text) (text_of c.put_simple.new.text) c.requires (simple_is (type_of f.1) (c.is_simple.ensures c.if-is_simple.true)) refl c.in_ok-put_name.ensures.text e)
    c.put_simple.ensures.told

pub structure::put_named-returns-clause-put : goal.structure::put_named-returns-clause-put
structure::put_named-returns-clause-put t c =
    let f = named c.args.field.now in
    let old = text_of c.args.text.now in
    on_ok c.put_part.result
    (λ e fs. told_field f.0 f.1 fs c.args.first (counted c.args.at.now) (counted c.go_to_begin.new.at) (counted c.put_part.new.at) c.args.at.now.place c.go_to_begin.new.at.place c.put_part.new.at.place
    old (old ++ lead c.args.first) (text_of c.put_name.new.text) (text_of c.put_part.new.text) c.requires c.in_ok-go_to_begin.ensures.same c.in_ok-go_to_begin.ensures.place refl c.in_ok-put_name.ensures.text e)
    c.put_part.ensures.told

pub array::put_item-returns-clause-put : goal.array::put_item-returns-clause-put
array::put_item-returns-clause-put t c =
    let s = sch c.args.item.now in
    let p = c.args.at.now.place in
    let q = c.put_part.new.at.place in
    on_ok c.put_part.result
    (λ e n. told_item s n c.args.index p q (behind (counted c.args.at.now) p) (behind (counted c.put_part.new.at) q)
    (text_of c.args.text.now) (text_of c.put_lead.new.text) (text_of c.put_part.new.text) c.in_ok-put_lead.ensures.text e)
    c.put_part.ensures.told

pub array::put_parts-loop-index-preserved : goal.array::put_parts-loop-index-preserved
array::put_parts-loop-index-preserved t c =
    let s = sch c.args.item.now in
    let n = c.args.count in
    let p = c.loop-index.at.place in
    let q = c.put_item.new.at.place in
    record {
      told = row_next s n c.loop-index.index (text_of c.loop-index.text) (text_of c.put_item.new.text) p q (behind (counted c.loop-index.at) p) (behind (counted c.put_item.new.at) q)
          (told_at (row_told s n 0) c.args.at.now c.args.text.now) c.loop-index-test.true c.in_ok-put_item.ensures.put c.loop-index.invariant.told;
      same = c.in_ok-put_item.ensures.same ∙ c.loop-index.invariant.same;
      front = begins_then _ _ _ c.loop-index.invariant.front c.in_ok-put_item.ensures.front;
    }

pub array::put_parts-returns-clause-told : goal.array::put_parts-returns-clause-told
array::put_parts-returns-clause-told t c =
    let p = c.args.at.now.place in
    let q = c.loop-index.at.place in
    row_end (sch c.args.item.now) c.args.count c.loop-index.index (text_of c.args.text.now) (text_of c.loop-index.text) p q (behind (counted c.args.at.now) p) (behind (counted c.loop-index.at) q)
    c.loop-index-test.false c.loop-index.invariant.told

pub variant::put_union-returns-clause-told : goal.variant::put_union-returns-clause-told
variant::put_union-returns-clause-told t c =
    let body = body_of c.args.body.now in
    let b = counted c.args.at.now in
    let p = c.args.at.now.place in
    let w = c.holding_bits.result in
    let tag = c.take.new.self in
    let k = tag.place in
    let d = counted c.put_variant.new.at in
    let q = c.put_variant.new.at.place in
    let at = c.align.new.self in
    let j = at.place in
    let is_w : w ≡ tag_bits (variants body.0) = c.holding_bits.ensures.value ∙ ap holding_bits (c.saturating_sub.ensures ∙ ap (λ m. m - 1) c.variants.ensures) in
    on_ok c.put_mark-2.result
    (λ e. told_union body.0 body.1 w c.in_ok-tag.tag p k q j (behind b p) (behind (counted tag) k) (behind d q) (behind (counted at) j)
    (text_of c.args.text.now) (text_of c.put_mark.new.text) (text_of c.put_variant.new.text) (text_of c.put_mark-2.new.text) is_w c.in_ok-tag.ensures.value c.in_ok-tag.ensures.place
    (behind_more b (counted tag) p k w c.in_ok-tag.ensures.bytes c.in_ok-tag.ensures.place) c.in_ok-put_mark.ensures.text c.in_ok-put_variant.ensures.told c.in_ok-align.ensures.place
    (behind_more d (counted at) q j _ c.in_ok-align.ensures.bytes c.in_ok-align.ensures.place) e)
    c.put_mark-2.ensures.text

pub variant::put_variant-returns-then-left-eq0-clause-told : goal.variant::put_variant-returns-then-left-eq0-clause-told
variant::put_variant-returns-then-left-eq0-clause-told t c =
    let items = c.as_slice-field-items.result.now in
    let tag = c.args.tag in
    let p = c.args.at.now.place in
    let x = behind (counted c.args.at.now) p in
    let old = text_of c.args.text.now in
    let k = c.loop-field.at.place in
    let q = c.put_part.new.at.place in
    on_ok c.put_part.result
    (λ e. ap (λ fs. after old (variant_told fs tag tag p x)) (sym (fields_are c.args.body.now items c.as_slice-field-items.ensures))
    ∙ told_here items c.loop-field.field-index c.field-item.result tag c.loop-field.left k (behind (counted c.loop-field.at) k) (text_of c.loop-field.text) (text_of c.put_name.new.text) (text_of c.put_part.new.text)
    q (behind (counted c.put_part.new.at) q) (after old (variant_told (flds items) tag tag p x)) c.loop-field-test.true c.field-item.is (sym c.is_padding.ensures ∙ c.if-not-is_padding.true) c.if-left-eq0.true
    c.in_ok-put_name.ensures.text e c.loop-field.invariant.told)
    c.put_part.ensures.told
