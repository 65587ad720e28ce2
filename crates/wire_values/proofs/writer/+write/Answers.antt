use Rattle.std.proofs.Common.{◌≡◌, ◌∙◌, ◌+◌, ◌-◌, ◌/◌, ◌%◌, ◌++◌, true, drop, length, sym, ap, subst, arith, rules}
use Rattle.std.proofs.lemmas.Grind.{common_steps}
use Rattle.cy_bits.specs.Bits.{bits_of, gap, zeros}
use Rattle.cy_bits.proofs.BitFacts.{length_bits_of}
use Rattle.dsdl_types.specs.Encoding.{each, field_bits, lead, own_bits, padded, part_bits, variant_bits, with_header}
use Rattle.dsdl_types.specs.Fits.{AllOf, Fits, FitsVariant}
use Rattle.dsdl_types.specs.Schemas.{is_aligned, is_delimited, length_field_bits, tag_bits, variants}
use Rattle.dsdl_types.specs.Values.{More, count}
use Rattle.dsdl_types.specs.Views.{body_of, flds, named, sch, type_of, val, vals, with_field}
use Rattle.dsdl_types.specs.declared.schema.Schema.TheFolds.{the_lemmas}
use Rattle.dsdl_types.proofs.Lengths.{part_whole}
use Rattle.wire_values.specs.Puts.{HasRoom, Puts}
use Rattle.wire_values.specs.Rules.{HasRules, HaveRules}
use Rattle.wire_values.proofs.Schemata.{fields_are, fixed_is, fixed_rules, flds_end, flds_next, field_rules, struct_is, union_is, union_rules, vals_end, vals_next, var_is, var_rules}
use Rattle.wire_values.proofs.Writings.{FieldsLeft, bytes_counted, count_vals, field_fits, field_room, field_written, fixed_fit, header_again, header_room, left_end, left_next, moved, padded_here, padding_room, padding_written, part_counted, puts_at, puts_both, room_at, room_behind, room_front, value_left, var_fit, variant_fits, variant_front}
use Rattle.wire_values.proofs.writer.+write.Goals as goal
use Rattle.wire_values.proofs.writer.+write.Goals.{write_fields-in-Some, write_fields-in-None}

pub write_own-write_items-requires : goal.write_own-write_items-requires
write_own-write_items-requires t c =
    let inner = sch c.get.result.now in
    let v = val c.args.value.now in
    let vs = vals c.items.result.now in
    let is = fixed_is c.args.schema.now c.in-Fixed.item c.get.result.now _ c.in-Fixed.is c.get.ensures in
    let e : own_bits (sch c.args.schema.now) v ≡ each (λ x. part_bits inner x) vs = ap (λ s. own_bits s v) is ∙ ap (λ x. each (λ y. part_bits inner y) x) (sym c.items.ensures) in (
      search (rules, the_lemmas),
      (
        fixed_rules inner _ (subst (λ s. HasRules s) is c.requires.rules),
        (
          fixed_fit inner _ v vs c.items.ensures (subst (λ s. Fits s v) is c.requires.fits),
          (λ h. c.requires.whole (ap (λ s. is_aligned s) is ∙ h), room_at c.args.out.now c.args.to.now.place _ (each (λ x. part_bits inner x) vs) e c.requires.room),
        ),
      ),
    )

pub write_own-write_var-requires : goal.write_own-write_var-requires
write_own-write_var-requires t c =
    let inner = sch c.get-in-Var.result.now in
    let cap = c.in-Var.cap in
    let v = val c.args.value.now in
    let vs = vals c.items-in-Var.result.now in
    let is = var_is c.args.schema.now c.in-Var.item c.get-in-Var.result.now cap c.in-Var.is c.get-in-Var.ensures in
    let bits_are = bits_of (length_field_bits cap) (count vs) ++ each (λ x. part_bits inner x) vs in
    let e : own_bits (sch c.args.schema.now) v ≡ bits_are = ap (λ s. own_bits s v) is ∙ ap (λ x. bits_of (length_field_bits cap) (count x) ++ each (λ y. part_bits inner y) x) (sym c.items-in-Var.ensures) in (
      search (rules, the_lemmas),
      (
        var_rules inner cap (subst (λ s. HasRules s) is c.requires.rules),
        (
          var_fit inner cap v vs c.items-in-Var.ensures (subst (λ s. Fits s v) is c.requires.fits),
          (λ h. c.requires.whole (ap (λ s. is_aligned s) is ∙ h), room_at c.args.out.now c.args.to.now.place _ bits_are e c.requires.room),
        ),
      ),
    )

pub write_own-put_padding-requires : goal.write_own-put_padding-requires
write_own-put_padding-requires t c =
    let body = body_of c.in-Struct.body in
    let v = val c.args.value.now in
    let l = field_bits body.0 0 (vals c.fields.result.now) in
    let p = c.args.to.now.place in
    let q = c.write_fields.new.to.place in
    let out = c.args.out.now in
    let is = struct_is c.args.schema.now c.in-Struct.body c.in-Struct.is in
    let whole : p % 8 ≡ 0 = c.requires.whole (ap (λ s. is_aligned s) is) in
    let e : own_bits (sch c.args.schema.now) v ≡ l ++ zeros (gap q) = ap (λ s. own_bits s v) is ∙ ap (λ x. padded (field_bits body.0 0 x)) (sym c.fields.ensures) ∙ sym (padded_here p q l whole c.write_fields.ensures.place) in
    room_behind out c.write_fields.new.out p q l (zeros (gap q)) (room_at out p _ (l ++ zeros (gap q)) e c.requires.room) c.write_fields.ensures (search rules)

pub write_own-returns-in-Struct : goal.write_own-returns-in-Struct
write_own-returns-in-Struct t c =
    let body = body_of c.in-Struct.body in
    let v = val c.args.value.now in
    let l = field_bits body.0 0 (vals c.fields.result.now) in
    let p = c.args.to.now.place in
    let q = c.write_fields.new.to.place in
    let r = c.put_padding.new.to.place in
    let out = c.args.out.now in
    let new = c.put_padding.new.out in
    let is = struct_is c.args.schema.now c.in-Struct.body c.in-Struct.is in
    let whole : p % 8 ≡ 0 = c.requires.whole (ap (λ s. is_aligned s) is) in
    let e : own_bits (sch c.args.schema.now) v ≡ l ++ zeros (gap q) = ap (λ s. own_bits s v) is ∙ ap (λ x. padded (field_bits body.0 0 x)) (sym c.fields.ensures) ∙ sym (padded_here p q l whole c.write_fields.ensures.place) in
    puts_at out new p r (l ++ zeros (gap q)) (own_bits (sch c.args.schema.now) v) (sym e)
    (puts_both out c.write_fields.new.out new p q r l (zeros (gap q)) (room_at out p _ (l ++ zeros (gap q)) e c.requires.room) c.write_fields.ensures c.put_padding.ensures)

pub write_own-put_padding-requires-in-Union : goal.write_own-put_padding-requires-in-Union
write_own-put_padding-requires-in-Union t c =
    let body = body_of c.in-Union.body in
    let fs = body.0 in
    let v = val c.args.value.now in
    let tag = c.tag.result in
    let l = bits_of (tag_bits (variants fs)) tag ++ variant_bits fs tag (val c.inner.result.now) in
    let p = c.args.to.now.place in
    let q = c.write_union.new.to.place in
    let out = c.args.out.now in
    let is = union_is c.args.schema.now c.in-Union.body c.in-Union.is in
    let whole : p % 8 ≡ 0 = c.requires.whole (ap (λ s. is_aligned s) is) in
    let e : own_bits (sch c.args.schema.now) v ≡ l ++ zeros (gap q) = ap (λ s. own_bits s v) is ∙ (λ i. padded (bits_of (tag_bits (variants fs)) (sym c.tag.ensures i) ++ variant_bits fs (sym c.tag.ensures i) (sym c.inner.ensures i))) ∙ sym (padded_here p q l whole c.write_union.ensures.place) in
    room_behind out c.write_union.new.out p q l (zeros (gap q)) (room_at out p _ (l ++ zeros (gap q)) e c.requires.room) c.write_union.ensures (search rules)

pub write_own-returns-in-Union : goal.write_own-returns-in-Union
write_own-returns-in-Union t c =
    let body = body_of c.in-Union.body in
    let fs = body.0 in
    let v = val c.args.value.now in
    let tag = c.tag.result in
    let l = bits_of (tag_bits (variants fs)) tag ++ variant_bits fs tag (val c.inner.result.now) in
    let p = c.args.to.now.place in
    let q = c.write_union.new.to.place in
    let r = c.put_padding-in-Union.new.to.place in
    let out = c.args.out.now in
    let new = c.put_padding-in-Union.new.out in
    let is = union_is c.args.schema.now c.in-Union.body c.in-Union.is in
    let whole : p % 8 ≡ 0 = c.requires.whole (ap (λ s. is_aligned s) is) in
    let e : own_bits (sch c.args.schema.now) v ≡ l ++ zeros (gap q) = ap (λ s. own_bits s v) is ∙ (λ i. padded (bits_of (tag_bits (variants fs)) (sym c.tag.ensures i) ++ variant_bits fs (sym c.tag.ensures i) (sym c.inner.ensures i))) ∙ sym (padded_here p q l whole c.write_union.ensures.place) in
    puts_at out new p r (l ++ zeros (gap q)) (own_bits (sch c.args.schema.now) v) (sym e)
    (puts_both out c.write_union.new.out new p q r l (zeros (gap q)) (room_at out p _ (l ++ zeros (gap q)) e c.requires.room) c.write_union.ensures c.put_padding-in-Union.ensures)

pub write_part-put-requires-clause-room : goal.write_part-put-requires-clause-room
write_part-put-requires-clause-room t c =
    let s = sch c.args.schema.now in
    let l = own_bits s (val c.args.value.now) in
    let out = c.args.out.now in
    let p = c.args.to.now.place in
    let d : is_delimited s ≡ true = sym c.is_delimited.ensures.value ∙ c.if-not-is_delimited.false in
    let room = header_room out p (length l / 8) 0 l (room_at out p _ (with_header true l) (part_counted s (val c.args.value.now) true d) c.requires.room) in
    room_front out p (bits_of 32 0) l room

pub write_part-write_own-requires-2 : goal.write_part-write_own-requires-2
write_part-write_own-requires-2 t c =
    let s = sch c.args.schema.now in
    let l = own_bits s (val c.args.value.now) in
    let out = c.args.out.now in
    let p = c.args.to.now.place in
    let q = c.put.new.to.place in
    let d : is_delimited s ≡ true = sym c.is_delimited.ensures.value ∙ c.if-not-is_delimited.false in
    let room = header_room out p (length l / 8) 0 l (room_at out p _ (with_header true l) (part_counted s (val c.args.value.now) true d) c.requires.room) in (
      search (rules, the_lemmas),
      (
        c.requires.rules,
        (
          c.requires.fits,
          (
            λ h. let w : p % 8 ≡ 0 = c.requires.whole h in omega (arith, w, c.put.ensures.place, length_bits_of 32 0),
            room_behind out c.put.new.out p q (bits_of 32 0) l room c.put.ensures (search rules),
          ),
        ),
      ),
    )

pub write_part-overflow_sub-bytes-2 : goal.write_part-overflow_sub-bytes-2
write_part-overflow_sub-bytes-2 t c = omega (arith, c.put.ensures.place, c.write_own-2.ensures.place, length_bits_of 32 0)

pub write_part-put-requires-2-clause-room : goal.write_part-put-requires-2-clause-room
write_part-put-requires-2-clause-room t c =
    let s = sch c.args.schema.now in
    let l = own_bits s (val c.args.value.now) in
    let out = c.args.out.now in
    let p = c.args.to.now.place in
    let d : is_delimited s ≡ true = sym c.is_delimited.ensures.value ∙ c.if-not-is_delimited.false in
    let room = room_front out p (bits_of 32 (length l / 8)) l (room_at out p _ (with_header true l) (part_counted s (val c.args.value.now) true d) c.requires.room) in
    let same : length c.write_own-2.new.out ≡ length out = search rules in
    record { room = omega (arith, room.room, same, length_bits_of 32 (length l / 8), length_bits_of 32 ((c.write_own-2.new.to.place - p - 32) / 8)); small = omega (arith, room.small, same) }

pub write_part-returns : goal.write_part-returns
write_part-returns t c =
    let s = sch c.args.schema.now in
    let v = val c.args.value.now in
    let l = own_bits s v in
    let out = c.args.out.now in
    let p = c.args.to.now.place in
    let q = c.write_own-2.new.to.place in
    let d : is_delimited s ≡ true = sym c.is_delimited.ensures.value ∙ c.if-not-is_delimited.false in
    let e = part_counted s v true d in
    let room = header_room out p (length l / 8) 0 l (room_at out p _ (with_header true l) e c.requires.room) in
    let one = puts_both out c.put.new.out c.write_own-2.new.out p c.put.new.to.place q (bits_of 32 0) l room c.put.ensures c.write_own-2.ensures in
    puts_at out c.put-2.new.out p q (with_header true l) (part_bits s v) (sym e)
    (header_again out c.write_own-2.new.out c.put-2.new.out p q c.put-2.new.to.place ((q - p - 32) / 8) l room one c.put-2.ensures (bytes_counted p q l one.place))

pub write_union-write_variant-requires : goal.write_union-write_variant-requires
write_union-write_variant-requires t c =
    let body = body_of c.args.body.now in
    let fs = body.0 in
    let tag = c.args.tag in
    let out = c.args.out.now in
    let p = c.args.to.now.place in
    let q = c.put.new.to.place in
    let is_w : c.tag_bits.result ≡ tag_bits (variants fs) = c.tag_bits.ensures.value ∙ ap tag_bits c.variants.ensures in
    let head : bits_of c.tag_bits.result c.from.result ≡ bits_of (tag_bits (variants fs)) tag = λ i. bits_of (is_w i) (c.from.ensures i) in
    let puts = puts_at out c.put.new.out p q (bits_of c.tag_bits.result c.from.result) (bits_of (tag_bits (variants fs)) tag) head c.put.ensures in (
      search (rules, the_lemmas),
      (
        union_rules fs body.1 c.requires.rules,
        (
          c.requires.fits,
          (
            omega (arith, c.requires.whole, c.tag_bits.ensures.whole, c.put.ensures.place, length_bits_of c.tag_bits.result c.from.result),
            room_behind out c.put.new.out p q (bits_of (tag_bits (variants fs)) tag) (variant_bits fs tag (val c.args.value.now)) c.requires.room puts (search rules),
          ),
        ),
      ),
    )

pub write_union-returns : goal.write_union-returns
write_union-returns t c =
    let fs = (body_of c.args.body.now).0 in
    let tag = c.args.tag in
    let out = c.args.out.now in
    let p = c.args.to.now.place in
    let q = c.put.new.to.place in
    let is_w : c.tag_bits.result ≡ tag_bits (variants fs) = c.tag_bits.ensures.value ∙ ap tag_bits c.variants.ensures in
    let head : bits_of c.tag_bits.result c.from.result ≡ bits_of (tag_bits (variants fs)) tag = λ i. bits_of (is_w i) (c.from.ensures i) in
    let puts = puts_at out c.put.new.out p q (bits_of c.tag_bits.result c.from.result) (bits_of (tag_bits (variants fs)) tag) head c.put.ensures in
    puts_both out c.put.new.out c.write_variant.new.out p q c.write_variant.new.to.place (bits_of (tag_bits (variants fs)) tag) (variant_bits fs tag (val c.args.value.now)) c.requires.room puts c.write_variant.ensures

pub write_var-put-requires-clause-room : goal.write_var-put-requires-clause-room
write_var-put-requires-clause-room t c =
    let vs = vals c.args.values.now in
    let out = c.args.out.now in
    let p = c.args.to.now.place in
    let is_w : c.length_field_bits.result ≡ length_field_bits c.args.cap = c.length_field_bits.ensures.value ∙ ap length_field_bits c.from.ensures in
    let head : bits_of (length_field_bits c.args.cap) (count vs) ≡ bits_of c.length_field_bits.result (length c.args.values.now) = λ i. bits_of (sym is_w i) (sym (count_vals c.args.values.now) i) in
    room_at out p (bits_of (length_field_bits c.args.cap) (count vs)) _ head (room_front out p (bits_of (length_field_bits c.args.cap) (count vs)) (each (λ x. part_bits (sch c.args.item.now) x) vs) c.requires.room)

pub write_var-write_items-requires : goal.write_var-write_items-requires
write_var-write_items-requires t c =
    let vs = vals c.args.values.now in
    let out = c.args.out.now in
    let p = c.args.to.now.place in
    let q = c.put.new.to.place in
    let is_w : c.length_field_bits.result ≡ length_field_bits c.args.cap = c.length_field_bits.ensures.value ∙ ap length_field_bits c.from.ensures in
    let head : bits_of c.length_field_bits.result (length c.args.values.now) ≡ bits_of (length_field_bits c.args.cap) (count vs) = λ i. bits_of (is_w i) (count_vals c.args.values.now i) in
    let puts = puts_at out c.put.new.out p q (bits_of c.length_field_bits.result (length c.args.values.now)) (bits_of (length_field_bits c.args.cap) (count vs)) head c.put.ensures in (
      search (rules, the_lemmas),
      (
        c.requires.rules,
        (
          c.requires.fits,
          (
            λ h. let w : p % 8 ≡ 0 = c.requires.whole h in omega (arith, w, c.length_field_bits.ensures.whole, c.put.ensures.place, length_bits_of c.length_field_bits.result (length c.args.values.now)),
            room_behind out c.put.new.out p q (bits_of (length_field_bits c.args.cap) (count vs)) (each (λ x. part_bits (sch c.args.item.now) x) vs) c.requires.room puts (search rules),
          ),
        ),
      ),
    )

pub write_var-returns : goal.write_var-returns
write_var-returns t c =
    let vs = vals c.args.values.now in
    let out = c.args.out.now in
    let p = c.args.to.now.place in
    let q = c.put.new.to.place in
    let is_w : c.length_field_bits.result ≡ length_field_bits c.args.cap = c.length_field_bits.ensures.value ∙ ap length_field_bits c.from.ensures in
    let head : bits_of c.length_field_bits.result (length c.args.values.now) ≡ bits_of (length_field_bits c.args.cap) (count vs) = λ i. bits_of (is_w i) (count_vals c.args.values.now i) in
    let puts = puts_at out c.put.new.out p q (bits_of c.length_field_bits.result (length c.args.values.now)) (bits_of (length_field_bits c.args.cap) (count vs)) head c.put.ensures in
    puts_both out c.put.new.out c.write_items.new.out p q c.write_items.new.to.place (bits_of (length_field_bits c.args.cap) (count vs)) (each (λ x. part_bits (sch c.args.item.now) x) vs) c.requires.room puts c.write_items.ensures

pub write_variant-write_part-requires : goal.write_variant-write_part-requires
write_variant-write_part-requires t c =
    let items = c.as_slice-field-items.result.now in
    let i = c.loop-field.field-index in
    let x = c.field-item.result in
    let v = val c.args.value.now in
    let fs = flds (drop (i + 1) items) in
    let inv = c.loop-field.invariant in
    let typed = sym c.is_padding.ensures ∙ c.if-not-is_padding.true in
    let now = flds_next items i x c.loop-field-test.true c.field-item.is in
    let rules = field_rules (named x).0 (named x).1 fs typed (subst (λ gs. HaveRules gs) now inv.rules) in
    let fit = variant_fits (named x).0 (named x).1 fs c.loop-field.left v typed c.if-left-eq0.true (subst (λ gs. FitsVariant gs c.loop-field.left v) now inv.fit) in
    let e : variant_bits (body_of c.args.body.now).0 c.args.tag v ≡ part_bits (type_of (named x).1) v =
    ap (λ gs. variant_bits gs c.args.tag v) (sym (fields_are c.args.body.now items c.as_slice-field-items.ensures)) ∙ sym inv.same ∙ ap (λ gs. variant_bits gs c.loop-field.left v) now ∙ variant_front (named x).0 (named x).1 fs c.loop-field.left v typed c.if-left-eq0.true in
    let room = room_at c.args.out.now c.args.to.now.place _ (part_bits (type_of (named x).1) v) e c.requires.room in (
      grind (arith, common_steps, the_lemmas),
      (
        rules,
        (
          fit,
          (
            λ h. ap (λ n. n % 8) inv.place ∙ c.requires.whole,
            subst (λ o. HasRoom o c.loop-field.to.place (part_bits (type_of (named x).1) v)) (sym inv.out) (subst (λ n. HasRoom c.args.out.now n (part_bits (type_of (named x).1) v)) (sym inv.place) room),
          ),
        ),
      ),
    )

pub write_variant-returns-then-left-eq0 : goal.write_variant-returns-then-left-eq0
write_variant-returns-then-left-eq0 t c =
    let items = c.as_slice-field-items.result.now in
    let i = c.loop-field.field-index in
    let x = c.field-item.result in
    let v = val c.args.value.now in
    let fs = flds (drop (i + 1) items) in
    let inv = c.loop-field.invariant in
    let new = c.write_part.new.out in
    let q = c.write_part.new.to.place in
    let typed = sym c.is_padding.ensures ∙ c.if-not-is_padding.true in
    let now = flds_next items i x c.loop-field-test.true c.field-item.is in
    let all = variant_bits (body_of c.args.body.now).0 c.args.tag v in
    let e : all ≡ part_bits (type_of (named x).1) v =
    ap (λ gs. variant_bits gs c.args.tag v) (sym (fields_are c.args.body.now items c.as_slice-field-items.ensures)) ∙ sym inv.same ∙ ap (λ gs. variant_bits gs c.loop-field.left v) now ∙ variant_front (named x).0 (named x).1 fs c.loop-field.left v typed c.if-left-eq0.true in
    subst (λ o. Puts o c.args.to.now.place new q all) inv.out (subst (λ n. Puts c.loop-field.out n new q all) inv.place (puts_at c.loop-field.out new c.loop-field.to.place q (part_bits (type_of (named x).1) v) all (sym e) c.write_part.ensures))

pub write_items-loop-value-preserved : goal.write_items-loop-value-preserved
write_items-loop-value-preserved t c =
    let s = sch c.args.item.now in
    let i = c.loop-value.value-index in
    let x = c.value-item.result in
    let inv = c.loop-value.invariant in
    let now = vals_next c.args.values.now i x c.loop-value-test.true c.value-item.is in
    let rest = vals (drop (i + 1) c.args.values.now) in
    let fit = subst (λ vs. AllOf (λ y. Fits s y) vs) now inv.fit in
    record {
      fit = fit.1;
      whole = λ h. omega (arith, inv.whole h, c.write_part.ensures.place, part_whole s (val x) h);
      left = left_next c.args.out.now c.loop-value.out c.write_part.new.out c.args.to.now.place c.loop-value.to.place c.write_part.new.to.place (each (λ v. part_bits s v) (vals c.args.values.now)) (each (λ v. part_bits s v) (vals (drop i c.args.values.now)))
          (part_bits s (val x)) (each (λ v. part_bits s v) rest) c.requires.room inv.left (ap (λ vs. each (λ v. part_bits s v) vs) now) c.write_part.ensures (search rules);
    }

pub write_items-returns : goal.write_items-returns
write_items-returns t c =
    let f = each (λ x. part_bits (sch c.args.item.now) x) (vals (drop c.loop-value.value-index c.args.values.now)) in
    left_end c.args.out.now c.loop-value.out c.args.to.now.place c.loop-value.to.place (each (λ x. part_bits (sch c.args.item.now) x) (vals c.args.values.now)) f
    (ap (λ vs. each (λ x. part_bits (sch c.args.item.now) x) vs) (vals_end c.args.values.now c.loop-value.value-index c.loop-value-test.false)) c.loop-value.invariant.left

pub write_field-returns : goal.write_field-returns
write_field-returns t c =
    let s = type_of (named c.args.field.now).1 in
    puts_both c.args.out.now c.put_lead.new.out c.write_part.new.out c.args.to.now.place c.put_lead.new.to.place c.write_part.new.to.place (lead (is_aligned s) c.args.to.now.place) (part_bits s (val c.args.value.now)) c.requires.room c.put_lead.ensures c.write_part.ensures

pub write_fields-put-requires-clause-room : goal.write_fields-put-requires-clause-room
write_fields-put-requires-clause-room t c =
    let items = c.as_slice-field-items.result.now in
    let i = c.loop-field.field-index in
    let x = c.field-item.result in
    let out = c.args.out.now in
    let p = c.args.to.now.place in
    let vs = vals (drop c.loop-field.next c.args.values.now) in
    let all = field_bits (flds items) 0 (vals c.args.values.now) in
    let fs = flds (drop (i + 1) items) in
    let now = flds_next items i x c.loop-field-test.true c.field-item.is in
    let room : HasRoom out p all = room_at out p _ all (ap (λ gs. field_bits gs 0 (vals c.args.values.now)) (sym (fields_are c.args.body.now items c.as_slice-field-items.ensures))) c.requires.room in
    let r = padding_room out c.loop-field.out p c.loop-field.to.place c.in-Some.bits all (named x).0 (named x).1 fs vs room c.in-Some.ensures (subst (λ gs. FieldsLeft out p all gs vs c.loop-field.out c.loop-field.to.place) now c.loop-field.invariant) in
    subst (λ n. HasRoom c.loop-field.out c.loop-field.to.place (bits_of n 0)) (sym c.from.ensures) r

pub write_fields-write_field-requires : goal.write_fields-write_field-requires
write_fields-write_field-requires t c =
    let items = c.as_slice-field-items.result.now in
    let i = c.loop-field.field-index in
    let x = c.field-item.result in
    let k = (named x).1 in
    let values = c.args.values.now in
    let next = c.loop-field.next in
    let v = c.index-values-next.result in
    let out = c.args.out.now in
    let p = c.args.to.now.place in
    let q = c.loop-field.to.place in
    let mid = c.loop-field.out in
    let all = field_bits (flds items) 0 (vals values) in
    let fs = flds (drop (i + 1) items) in
    let vs = vals (drop (next + 1) values) in
    let now = flds_next items i x c.loop-field-test.true c.field-item.is in
    let room : HasRoom out p all = room_at out p _ all (ap (λ gs. field_bits gs 0 (vals values)) (sym (fields_are c.args.body.now items c.as_slice-field-items.ensures))) c.requires.room in
    let inv : FieldsLeft out p all (with_field (named x).0 k fs) (vals (drop next values)) mid q = subst (λ gs. FieldsLeft out p all gs (vals (drop next values)) mid q) now c.loop-field.invariant in
    let within = value_left (named x).0 k fs values next c.in-None.ensures inv.fit in
    let left : FieldsLeft out p all (with_field (named x).0 k fs) (More (val v) vs) mid q = subst (λ ws. FieldsLeft out p all (with_field (named x).0 k fs) ws mid q) (vals_next values next v within c.index-values-next.is) inv in (
      search (rules, the_lemmas, common_steps),
      (
        field_rules (named x).0 k fs c.in-None.ensures left.rules,
        (
          (field_fits (named x).0 k fs (val v) vs c.in-None.ensures left.fit).0,
          field_room out mid p q all (named x).0 k fs (val v) vs room c.requires.whole c.in-None.ensures left,
        ),
      ),
    )

pub write_fields-loop-field-preserved : goal.write_fields-loop-field-preserved
write_fields-loop-field-preserved t c =
    let items = c.as_slice-field-items.result.now in
    let i = c.loop-field.field-index in
    let x = c.field-item.result in
    let k = (named x).1 in
    let values = c.args.values.now in
    let next = c.loop-field.next in
    let out = c.args.out.now in
    let p = c.args.to.now.place in
    let q = c.loop-field.to.place in
    let mid = c.loop-field.out in
    let all = field_bits (flds items) 0 (vals values) in
    let fs = flds (drop (i + 1) items) in
    let now = flds_next items i x c.loop-field-test.true c.field-item.is in
    let room : HasRoom out p all = room_at out p _ all (ap (λ gs. field_bits gs 0 (vals values)) (sym (fields_are c.args.body.now items c.as_slice-field-items.ensures))) c.requires.room in
    let inv : FieldsLeft out p all (with_field (named x).0 k fs) (vals (drop next values)) mid q = subst (λ gs. FieldsLeft out p all gs (vals (drop next values)) mid q) now c.loop-field.invariant in
    elim c.match-padding.branch [
      | write_fields-in-Some w ↦
          let n = w.in-Some.bits in
          let puts : Puts mid q w.put.new.out w.put.new.to.place (bits_of n 0) = subst (λ m. Puts mid q w.put.new.out w.put.new.to.place (bits_of m 0)) w.from.ensures w.put.ensures in
          let done : FieldsLeft out p all fs (vals (drop next values)) w.put.new.out w.put.new.to.place = padding_written out mid w.put.new.out p q w.put.new.to.place n all (named x).0 k fs (vals (drop next values)) room w.in-Some.ensures inv puts (search rules) in
          moved out p all fs values c.match-padding.out w.put.new.out c.match-padding.to.place w.put.new.to.place c.match-padding.next next w.out-is (ap (λ b. b.place) w.to-is) w.next-is done
      | write_fields-in-None w ↦
          let v = w.index-values-next.result in
          let vs = vals (drop (next + 1) values) in
          let within = value_left (named x).0 k fs values next w.in-None.ensures inv.fit in
          let left : FieldsLeft out p all (with_field (named x).0 k fs) (More (val v) vs) mid q = subst (λ ws. FieldsLeft out p all (with_field (named x).0 k fs) ws mid q) (vals_next values next v within w.index-values-next.is) inv in
          let done : FieldsLeft out p all fs vs w.write_field.new.out w.write_field.new.to.place = field_written out mid w.write_field.new.out p q w.write_field.new.to.place all (named x).0 k fs (val v) vs room c.requires.whole w.in-None.ensures left w.write_field.ensures (search rules) in
          moved out p all fs values c.match-padding.out w.write_field.new.out c.match-padding.to.place w.write_field.new.to.place c.match-padding.next (next + 1) w.out-is (ap (λ b. b.place) w.to-is) w.next-is done
    ]

pub write_fields-returns : goal.write_fields-returns
write_fields-returns t c =
    let items = c.as_slice-field-items.result.now in
    let values = c.args.values.now in
    let out = c.args.out.now in
    let p = c.args.to.now.place in
    let q = c.loop-field.to.place in
    let vs = vals (drop c.loop-field.next values) in
    let i = c.loop-field.field-index in
    let all = field_bits (flds items) 0 (vals values) in
    puts_at out c.loop-field.out p q all (field_bits (body_of c.args.body.now).0 0 (vals values)) (ap (λ gs. field_bits gs 0 (vals values)) (fields_are c.args.body.now items c.as_slice-field-items.ensures))
    (left_end out c.loop-field.out p q all (field_bits (flds (drop i items)) (q - p) vs) (ap (λ gs. field_bits gs (q - p) vs) (flds_end items i c.loop-field-test.false)) c.loop-field.invariant.left)
