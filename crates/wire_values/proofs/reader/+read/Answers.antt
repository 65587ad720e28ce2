use Rattle.std.proofs.Common.{◌≡◌, ◌∙◌, ◌+◌, ◌-◌, ◌*◌, ◌%◌, ◌<◌, ◌≤◌, true, drop, sym, ap, subst, arith, rules}
use Rattle.std.proofs.lemmas.Grind.{common_steps}
use Rattle.std.proofs.lemmas.Result.{err_from_is_err_and}
use Rattle.dsdl_types.specs.Reach.{header_or, reach, reach_fields, reach_variant}
use Rattle.dsdl_types.specs.Reading.{own, part, row, fields, variant, under, Got, Name}
use Rattle.dsdl_types.specs.Schemas.{Flds, End, is_delimited, variants}
use Rattle.dsdl_types.specs.Schemas as D
use Rattle.dsdl_types.specs.Values.{Tagged}
use Rattle.dsdl_types.specs.Views.{sch, val, vals, flds, body_of, named, type_of, with_field, is_saturated}
use Rattle.dsdl_types.specs.declared.value.Value.TheVariants as V
use Rattle.dsdl_types.specs.declared.schema.Schema.TheFolds.{the_lemmas}
use Rattle.dsdl_types.proofs.Equations.{kind_uint, kind_float, val_items, val_struct, val_union}
use Rattle.wire_values.specs.Reads.{IsWindow, Near, behind, window_read, Fails}
use Rattle.wire_values.specs.Rules.{HaveRules}
use Rattle.wire_values.proofs.Schemata.{flds_next, fields_are, fixed_is, struct_is, behind_rules, field_rules}
use Rattle.wire_values.proofs.Near.{part_near, fields_near, variant_near, skip_near, nearer, reach_front, reach_variant_named, field_near, window_near, items_left}
use Rattle.wire_values.proofs.Readings.{behind_more, gives_at, on_ok, if_given, own_row, own_row_fails, own_parts, own_tagged, part_window, row_end, row_next, row_fails, fails_at, fields_next, fields_stop, fields_end, variant_here, variant_end, tag_within}
use Rattle.wire_values.proofs.reader.+read.Goals as goal

pub read_own-returns-in-Uint-clause-reads : goal.read_own-returns-in-Uint-clause-reads
read_own-returns-in-Uint-clause-reads t c =
    let x = behind c.args.at.now.bytes c.args.at.now.place in
    ap (λ s. own (sch s) c.args.at.now.place x) c.in-Uint.is
    ∙ ap (λ k. own (type_of k) c.args.at.now.place x) (kind_uint c.in-Uint.bits c.in-Uint.cast)
    ∙ c.read_unsigned.ensures.reads (is_saturated c.in-Uint.cast)

pub read_own-returns-in-Float-clause-reads : goal.read_own-returns-in-Float-clause-reads
read_own-returns-in-Float-clause-reads t c =
    let x = behind c.args.at.now.bytes c.args.at.now.place in
    ap (λ s. own (sch s) c.args.at.now.place x) c.in-Float.is
    ∙ ap (λ k. own (type_of k) c.args.at.now.place x) (kind_float c.in-Float.bits c.in-Float.cast)
    ∙ c.read_float.ensures.reads (is_saturated c.in-Float.cast)

pub read_own-returns-in_err-values-in-Fixed-clause-reads : goal.read_own-returns-in_err-values-in-Fixed-clause-reads
read_own-returns-in_err-values-in-Fixed-clause-reads t c =
    let p = c.args.at.now.place in
    let x = behind c.args.at.now.bytes p in
    let e = c.in_err-values-in-Fixed.field-0.0 in
    let is = fixed_is c.args.schema.now c.in-Fixed.item c.get.result.now c.in-Fixed.len c.in-Fixed.is c.get.ensures in
    let w = err_from_is_err_and c.from_residual.result c.from_residual.ensures.1 in
    rw (w.1, w.2)
    (subst (λ s. Fails e (own s p x)) (sym is) (own_row_fails e (sch c.get.result.now) c.in-Fixed.len p x c.in_err-values-in-Fixed.ensures.reads))

pub read_own-returns-in_ok-values-in-Fixed-clause-reads : goal.read_own-returns-in_ok-values-in-Fixed-clause-reads
read_own-returns-in_ok-values-in-Fixed-clause-reads t c =
    let p = c.args.at.now.place in
    let x = behind c.args.at.now.bytes p in
    let q = c.read_row.new.at.place in
    let y = behind c.read_row.new.at.bytes q in
    let values = c.in_ok-values-in-Fixed.values in
    let is = fixed_is c.args.schema.now c.in-Fixed.item c.get.result.now c.in-Fixed.len c.in-Fixed.is c.get.ensures in
    ap (λ s. own s p x) is
    ∙ own_row (sch c.get.result.now) c.in-Fixed.len p x (vals values) q y c.in_ok-values-in-Fixed.ensures.reads
    ∙ ap (λ v. Got v q y) (sym (val_items values))

pub read_own-returns-in_ok-values-in-Struct-clause-reads : goal.read_own-returns-in_ok-values-in-Struct-clause-reads
read_own-returns-in_ok-values-in-Struct-clause-reads t c =
    let p = c.args.at.now.place in
    let x = behind c.args.at.now.bytes p in
    let q = c.read_fields.new.at.place in
    let b = c.read_fields.new.at.bytes in
    let k = c.align.new.self.place in
    let z = behind c.align.new.self.bytes k in
    let values = c.in_ok-values-in-Struct.values in
    let body = body_of c.in-Struct.body in
    ap (λ s. own s p x) (struct_is c.args.schema.now c.in-Struct.body c.in-Struct.is)
    ∙ own_parts body.0 body.1 p q k x (behind b q) z (vals values) c.in_ok-values-in-Struct.ensures.reads c.align.ensures.place
    (behind_more b c.align.new.self.bytes q k _ c.align.ensures.bytes c.align.ensures.place)
    ∙ ap (λ v. Got v k z) (sym (val_struct values))

pub read_part-returns-then-is_delimited-clause-reads : goal.read_part-returns-then-is_delimited-clause-reads
read_part-returns-then-is_delimited-clause-reads t c =
    let s = sch c.args.schema.now in
    let b = c.args.at.now.bytes in
    let p = c.args.at.now.place in
    let count = c.take-count in
    let d : is_delimited s ≡ true = sym c.is_delimited.ensures.value ∙ c.if-is_delimited.true in
    let rest = behind_more b count.new.self.bytes p count.new.self.place 32 count.ensures.bytes count.ensures.place in
    let e : part s p (behind b p) ≡ window_read (own s) count.result count.new.self.place (behind count.new.self.bytes count.new.self.place) =
    part_window s p (behind b p) d ∙ (λ i. window_read (own s) (sym count.ensures.value i) (sym count.ensures.place i) (sym rest i)) in
    gives_at (λ v. val v) c.read_window.result c.read_window.new.at.bytes c.read_window.new.at.place _ (part s p (behind b p)) (sym e) c.read_window.ensures.reads

pub read_item-returns-in-Ok-clause-near : goal.read_item-returns-in-Ok-clause-near
read_item-returns-in-Ok-clause-near t c =
    λ more h. on_ok c.push.result (part_near (sch c.args.item.now) c.args.at.now.bytes c.read_part.new.at.bytes c.args.at.now.place c.read_part.new.at.place (val c.in-Ok.value) more c.in-Ok.ensures.reads h)

pub read_row-returns-in_err-read_item-clause-reads : goal.read_row-returns-in_err-read_item-clause-reads
read_row-returns-in_err-read_item-clause-reads t c =
    let s = sch c.args.item.now in
    let n = c.args.count in
    let i = c.loop-index.index in
    let p = c.loop-index.at.place in
    let x = behind c.loop-index.at.bytes p in
    let old = vals c.loop-index.values.items in
    let e = c.in_err-read_item.field-0.0 in
    let all = row (part s) n 0 c.args.at.now.place (behind c.args.at.now.bytes c.args.at.now.place) in
    let w = err_from_is_err_and c.from_residual.result c.from_residual.ensures.1 in
    rw (w.1, w.2) (row_fails e s n i old p x all c.loop-index-test.true (c.in_err-read_item.ensures.goes (n - (i + 1))) c.loop-index.invariant.reads)

pub read_row-loop-index-preserved : goal.read_row-loop-index-preserved
read_row-loop-index-preserved t c =
    let s = sch c.args.item.now in
    let n = c.args.count in
    let i = c.loop-index.index in
    let m = header_or (is_delimited s) (reach s) in
    let p = c.loop-index.at.place in
    let b = c.loop-index.at.bytes in
    let q = c.read_item.new.at.place in
    let y = behind c.read_item.new.at.bytes q in
    let old = vals c.loop-index.values.items in
    let now = vals c.read_item.new.values.items in
    let all = row (part s) n 0 c.args.at.now.place (behind c.args.at.now.bytes c.args.at.now.place) in
    record {
      reads = row_next s n i old now p q (behind b p) y all c.loop-index-test.true (c.in_ok-read_item.ensures.goes (n - (i + 1))) c.loop-index.invariant.reads;
      same = c.in_ok-read_item.ensures.same ∙ c.loop-index.invariant.same;
      whole = λ h. c.in_ok-read_item.ensures.whole h;
      near = c.in_ok-read_item.ensures.near ((n - (i + 1)) * m) (subst (λ k. Near b p k) (items_left n i m c.loop-index-test.true) c.loop-index.invariant.near);
    }

pub read_row-returns-clause-reads : goal.read_row-returns-clause-reads
read_row-returns-clause-reads t c =
    sym c.loop-index.invariant.reads
    ∙ row_end (sch c.args.item.now) c.args.count c.loop-index.index (vals c.loop-index.values.items) c.loop-index.at.place (behind c.loop-index.at.bytes c.loop-index.at.place) c.loop-index-test.false
    ∙ ap (λ l. Got (vals l) c.loop-index.at.place (behind c.loop-index.at.bytes c.loop-index.at.place)) (sym c.new.ensures)

pub read_fields-returns-in_err-read_field-clause-reads : goal.read_fields-returns-in_err-read_field-clause-reads
read_fields-returns-in_err-read_field-clause-reads t c =
    let items = c.as_slice-field-items.result.now in
    let p = c.args.at.now.place in
    let x = behind c.args.at.now.bytes p in
    let e = c.in_err-read_field.field-0.0 in
    let w = err_from_is_err_and c.from_residual.result c.from_residual.ensures.1 in
    rw (w.1, w.2)
    (fails_at e _ (fields (body_of c.args.body.now).0 p x) (ap (λ fs. fields fs p x) (fields_are c.args.body.now items c.as_slice-field-items.ensures))
    (fields_stop e items c.loop-field.field-index c.field-item.result (vals c.loop-field.values.items) c.loop-field.at.place (behind c.loop-field.at.bytes c.loop-field.at.place) (fields (flds items) p x) c.loop-field-test.true c.field-item.is c.in_err-read_field.ensures.goes c.loop-field.invariant.reads))

pub read_fields-loop-field-preserved : goal.read_fields-loop-field-preserved
read_fields-loop-field-preserved t c =
    let items = c.as_slice-field-items.result.now in
    let i = c.loop-field.field-index in
    let x = c.field-item.result in
    let b = c.loop-field.at.bytes in
    let p = c.loop-field.at.place in
    let now = flds_next items i x c.loop-field-test.true c.field-item.is in
    let fs = flds (drop (i + 1) items) in
    let rules : HaveRules (with_field (named x).0 (named x).1 fs) = subst (λ gs. HaveRules gs) now c.loop-field.invariant.rules in
    let near : Near b p (reach_fields (with_field (named x).0 (named x).1 End) + reach_fields fs) = subst (λ k. Near b p k) (ap (λ gs. reach_fields gs) now ∙ reach_front (named x).0 (named x).1 fs) c.loop-field.invariant.near in
    record {
      reads = fields_next items i x (vals c.loop-field.values.items) (vals c.read_field.new.values.items) p c.read_field.new.at.place (behind b p) (behind c.read_field.new.at.bytes c.read_field.new.at.place)
          (fields (flds items) c.args.at.now.place (behind c.args.at.now.bytes c.args.at.now.place)) c.loop-field-test.true c.field-item.is c.in_ok-read_field.ensures.goes c.loop-field.invariant.reads;
      same = c.in_ok-read_field.ensures.same ∙ c.loop-field.invariant.same;
      rules = behind_rules (named x).0 (named x).1 fs rules;
      near = c.in_ok-read_field.ensures.near (reach_fields fs) near;
    }

pub read_fields-returns-clause-reads : goal.read_fields-returns-clause-reads
read_fields-returns-clause-reads t c =
    let items = c.as_slice-field-items.result.now in
    let p = c.args.at.now.place in
    let x = behind c.args.at.now.bytes p in
    let q = c.loop-field.at.place in
    let y = behind c.loop-field.at.bytes q in
    ap (λ fs. fields fs p x) (sym (fields_are c.args.body.now items c.as_slice-field-items.ensures))
    ∙ fields_end items c.loop-field.field-index (vals c.loop-field.values.items) q y (fields (flds items) p x) c.loop-field-test.false c.loop-field.invariant.reads
    ∙ ap (λ l. Got (vals l) q y) (sym c.new.ensures)

pub read_fields-returns-clause-near : goal.read_fields-returns-clause-near
read_fields-returns-clause-near t c = λ more h.
    let items = c.as_slice-field-items.result.now in
    let p = c.args.at.now.place in
    let b = c.args.at.now.bytes in
    let q = c.loop-field.at.place in
    let d = c.loop-field.at.bytes in
    let vs = vals c.loop-field.values.items in
    let reads : fields (body_of c.args.body.now).0 p (behind b p) ≡ Got vs q (behind d q) =
    ap (λ fs. fields fs p (behind b p)) (sym (fields_are c.args.body.now items c.as_slice-field-items.ensures))
    ∙ fields_end items c.loop-field.field-index vs q (behind d q) (fields (flds items) p (behind b p)) c.loop-field-test.false c.loop-field.invariant.reads in
    fields_near (body_of c.args.body.now).0 b d p q vs more reads h

pub read_union-align-requires : goal.read_union-align-requires
read_union-align-requires t c =
    let fs = (body_of c.args.body.now).0 in
    let b = c.args.at.now.bytes in
    let p = c.args.at.now.place in
    let w = c.tag_bits.result in
    let tag = c.take-tag in
    let is_w : w ≡ D.tag_bits (variants fs) = c.tag_bits.ensures.value ∙ ap D.tag_bits c.variants.ensures in
    let near : Near b p (w + (reach_variant fs + 7)) = subst (λ m. Near b p (m + (reach_variant fs + 7))) (sym is_w) c.requires.near in
    let behind_tag : Near tag.new.self.bytes tag.new.self.place (reach_variant fs + 7) = skip_near b tag.new.self.bytes p tag.new.self.place w (reach_variant fs + 7) tag.ensures.bytes tag.ensures.place near in
    let here : Near c.read_variant.new.at.bytes c.read_variant.new.at.place 7 = c.in_ok-value.ensures.near 7 behind_tag in
    omega (arith, here)

pub read_union-returns-clause-reads : goal.read_union-returns-clause-reads
read_union-returns-clause-reads t c =
    let body = body_of c.args.body.now in
    let fs = body.0 in
    let b = c.args.at.now.bytes in
    let p = c.args.at.now.place in
    let w = c.tag_bits.result in
    let tag = c.take-tag in
    let n = tag.result in
    let k = tag.new.self.place in
    let q = c.read_variant.new.at.place in
    let d = c.read_variant.new.at.bytes in
    let j = c.align.new.self.place in
    let u = behind c.align.new.self.bytes j in
    let v = c.in_ok-value.value in
    let is_w : w ≡ D.tag_bits (variants fs) = c.tag_bits.ensures.value ∙ ap D.tag_bits c.variants.ensures in
    let boxed : val (V.Union n c.in_ok-new.field-0) ≡ Tagged n (val v) = val_union n c.in_ok-new.field-0 ∙ ap (λ x. Tagged n (val x)) c.in_ok-new.ensures in
    own_tagged fs body.1 w n p k q j (behind b p) (behind tag.new.self.bytes k) (behind d q) u (val v) is_w tag.ensures.value tag.ensures.place
    (behind_more b tag.new.self.bytes p k w tag.ensures.bytes tag.ensures.place) c.in_ok-value.ensures.reads c.align.ensures.place
    (behind_more d c.align.new.self.bytes q j _ c.align.ensures.bytes c.align.ensures.place)
    ∙ ap (λ x. Got x j u) (sym boxed)

pub read_variant-read_named-requires : goal.read_variant-read_named-requires
read_variant-read_named-requires t c =
    let items = c.as_slice-field-items.result.now in
    let i = c.loop-field.field-index in
    let x = c.field-item.result in
    let fs = flds (drop (i + 1) items) in
    let b = c.args.at.now.bytes in
    let p = c.args.at.now.place in
    let typed = sym c.is_padding.ensures ∙ c.if-not-is_padding.true in
    let now = flds_next items i x c.loop-field-test.true c.field-item.is in
    let rules = field_rules (named x).0 (named x).1 fs typed (subst (λ gs. HaveRules gs) now c.loop-field.invariant.rules) in
    let first = reach_variant_named (named x).0 (named x).1 fs typed in
    let all : reach_variant (flds items) ≡ reach_variant (body_of c.args.body.now).0 = ap (λ gs. reach_variant gs) (fields_are c.args.body.now items c.as_slice-field-items.ensures) in
    let most : header_or (is_delimited (type_of (named x).1)) (reach (type_of (named x).1)) ≤ reach_variant (body_of c.args.body.now).0 = omega (arith, first, ap (λ gs. reach_variant gs) now, c.loop-field.invariant.near, all) in
    let near = nearer b p (header_or (is_delimited (type_of (named x).1)) (reach (type_of (named x).1))) (reach_variant (body_of c.args.body.now).0) most c.requires.near in
    let m = header_or (is_delimited (type_of (named x).1)) (reach (type_of (named x).1)) in (
      grind (arith, common_steps, the_lemmas),
      (
        rules,
        (
          λ h. ap (λ n. n % 8) c.loop-field.invariant.place ∙ c.requires.whole,
          subst (λ d. Near d c.loop-field.at.place m) (sym c.loop-field.invariant.same) (subst (λ n. Near b n m) (sym c.loop-field.invariant.place) near),
        ),
      ),
    )

pub read_variant-returns-then-left-eq0-clause-reads : goal.read_variant-returns-then-left-eq0-clause-reads
read_variant-returns-then-left-eq0-clause-reads t c =
    let items = c.as_slice-field-items.result.now in
    let x = c.field-item.result in
    let b = c.args.at.now.bytes in
    let p = c.args.at.now.place in
    let tag = c.args.tag in
    let fs = (body_of c.args.body.now).0 in
    let typed = sym c.is_padding.ensures ∙ c.if-not-is_padding.true in
    let here = variant_here items c.loop-field.field-index x tag c.loop-field.left p (behind b p) (variant (flds items) tag tag p (behind b p)) c.loop-field-test.true c.field-item.is typed c.if-left-eq0.true c.loop-field.invariant.reads in
    let e : under (Name (named x).0) (part (type_of (named x).1) c.loop-field.at.place (behind c.loop-field.at.bytes c.loop-field.at.place)) ≡ variant fs tag tag p (behind b p) =
    (λ i. under (Name (named x).0) (part (type_of (named x).1) (c.loop-field.invariant.place i) (behind (c.loop-field.invariant.same i) (c.loop-field.invariant.place i))))
    ∙ here ∙ ap (λ gs. variant gs tag tag p (behind b p)) (fields_are c.args.body.now items c.as_slice-field-items.ensures) in
    gives_at (λ v. val v) c.read_named.result c.read_named.new.at.bytes c.read_named.new.at.place _ (variant fs tag tag p (behind b p)) e c.read_named.ensures.reads

pub read_variant-returns-then-left-eq0-clause-near : goal.read_variant-returns-then-left-eq0-clause-near
read_variant-returns-then-left-eq0-clause-near t c = λ more h.
    let fs = (body_of c.args.body.now).0 in
    let b = c.args.at.now.bytes in
    let p = c.args.at.now.place in
    let d = c.read_named.new.at.bytes in
    let q = c.read_named.new.at.place in
    let tag = c.args.tag in
    if_given (λ v. val v) c.read_named.result d q (variant fs tag tag p (behind b p)) (Near d q more) (λ v e. variant_near fs tag b d p q v more e h) (read_variant-returns-then-left-eq0-clause-reads t c)

pub read_variant-returns-then-left-eq0-clause-tag : goal.read_variant-returns-then-left-eq0-clause-tag
read_variant-returns-then-left-eq0-clause-tag t c =
    let fs = (body_of c.args.body.now).0 in
    let b = c.args.at.now.bytes in
    let p = c.args.at.now.place in
    let d = c.read_named.new.at.bytes in
    let q = c.read_named.new.at.place in
    let tag = c.args.tag in
    if_given (λ v. val v) c.read_named.result d q (variant fs tag tag p (behind b p)) (tag < variants fs) (λ v e. tag_within fs tag tag p (behind b p) v q (behind d q) e) (read_variant-returns-then-left-eq0-clause-reads t c)

pub read_variant-returns-clause-reads : goal.read_variant-returns-clause-reads
read_variant-returns-clause-reads t c =
    let items = c.as_slice-field-items.result.now in
    let p = c.args.at.now.place in
    let x = behind c.args.at.now.bytes p in
    let tag = c.args.tag in
    let all = variant (flds items) tag tag p x in
    let none = variant_end items c.loop-field.field-index tag c.loop-field.left p x all c.loop-field-test.false c.loop-field.invariant.reads in
    fails_at c.here.result _ (variant (body_of c.args.body.now).0 tag tag p x) (sym none ∙ ap (λ gs. variant gs tag tag p x) (fields_are c.args.body.now items c.as_slice-field-items.ensures)) c.here.ensures

pub read_field-returns-in_ok-value-in-None-clause-near : goal.read_field-returns-in_ok-value-in-None-clause-near
read_field-returns-in_ok-value-in-None-clause-near t c = λ more h.
    let f = named c.args.field.now in
    on_ok c.push.result
    (field_near f.0 f.1 c.args.at.now.bytes c.go_to_begin.new.at.bytes c.read_named.new.at.bytes c.args.at.now.place c.go_to_begin.new.at.place c.read_named.new.at.place
    (val c.in_ok-value-in-None.value) more c.in-None.ensures c.go_to_begin.ensures.same c.go_to_begin.ensures.place c.in_ok-value-in-None.ensures.reads h)

pub read_window-read_own-requires : goal.read_window-read_own-requires
read_window-read_own-requires t c =
    let s = sch c.args.schema.now in
    let some = subst (λ b. IsWindow b c.place.result c.args.count c.in-Some.bytes.now) c.bytes.ensures c.in-Some.ensures.some in
    let near = window_near s c.in-Some.bytes.now (behind c.args.at.now.bytes c.place.result) c.args.count c.requires.rules c.requires.delimited c.requires.small some.0 some.1 in (
      search (rules, the_lemmas),
      (
        c.requires.rules,
        (
          λ h. ap (λ p. p % 8) c.new-inner.ensures.place,
          subst (λ b. Near b c.new-inner.result.place (reach s)) (sym c.new-inner.ensures.bytes) (subst (λ p. Near c.in-Some.bytes.now p (reach s)) (sym c.new-inner.ensures.place) near),
        ),
      ),
    )
