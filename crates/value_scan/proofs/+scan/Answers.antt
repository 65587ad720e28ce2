use Rattle.std.proofs.Common.{◌≡◌, ◌∙◌, ◌+◌, ◌-◌, ◌/◌, ◌≤◌, ◌++◌, drop, subst, length, ap, sym, arith, true}
use Rattle.cy_bits.specs.Bits.{bits_of}
use Rattle.dsdl_types.specs.Views.{named, flds, kind_of, body_of, sch, type_of}
use Rattle.dsdl_types.specs.Schemas as D
use Rattle.dsdl_types.specs.Schemas.{holding_bits, tag_bits, variants}
use Rattle.dsdl_types.specs.Encoding.{own_bits}
use Rattle.dsdl_types.specs.Fits.{Fits}
use Rattle.value_text.specs.Texts.{value_text}
use Rattle.value_scan.specs.Scanned.{IsArray, LeavesVariant, RowScans, Scans, VariantScans}
use Rattle.dsdl_types.proofs.Equations.{kind_bool, kind_float, kind_int, kind_uint, kind_void}
use Rattle.value_scan.specs.Written.{IsPatched, written}
use Rattle.value_scan.proofs.Steps.{counted_part, fixed_scanned, if_ok, item_left, left_end, named_left, on_both, on_ok, padding_left, place_is, row_left_end, struct_scanned, uint8_is, union_scanned, var_scanned, variant_found, variant_later, variant_skip}
use Rattle.value_scan.proofs.SimpleParts.{simple_left, simple_part}
use Rattle.value_scan.proofs.+scan.Goals as goal
use Rattle.value_scan.proofs.+scan.Goals.{unions::scan_variant-then-not-is_padding+else-left-eq0, unions::scan_variant-else-not-is_padding}

pub structures::scan_field-returns-in_ok-put-in-Void-clause-scanned : goal.structures::scan_field-returns-in_ok-put-in-Void-clause-scanned
structures::scan_field-returns-in_ok-put-in-Void-clause-scanned t c = λ fs.
    let out = c.args.out.now in
    let new = c.put.new.self in
    let f = named c.args.field.now in
    let n = c.in-Void.bits in
    let k = ap kind_of c.in-Void.is ∙ kind_void n in
    let w : written new ≡ written out ++ bits_of n 0 = c.in_ok-put-in-Void.ensures.bits ∙ ap (λ m. written out ++ bits_of m 0) c.from.ensures in
    let q : new.place - c.args.start ≡ out.place - c.args.start + n = omega (arith, c.in_ok-put-in-Void.ensures.place, c.from.ensures, c.requires) in
    padding_left f.0 n f.1 c.args.first (drop c.args.at.now c.args.line.now) (written out) (written new) (out.place - c.args.start) (new.place - c.args.start) k w q fs

pub structures::scan_fields-returns-clause-scanned : goal.structures::scan_fields-returns-clause-scanned
structures::scan_fields-returns-clause-scanned t c =
    left_end c.args.body.now c.as_slice-field-items.result.now c.loop-field.field-index (drop c.args.at.now c.args.line.now) (drop c.loop-field.at c.args.line.now) (written c.args.out.now) (written c.loop-field.out)
    c.loop-field.first _ c.as_slice-field-items.ensures c.loop-field-test.false c.loop-field.invariant.left

pub structures::scan_named-returns-in-Bool-clause-scanned : goal.structures::scan_named-returns-in-Bool-clause-scanned
structures::scan_named-returns-in-Bool-clause-scanned t c =
    let f = named c.args.field.now in
    let line = c.args.line.now in
    let start = c.args.start in
    let u = c.args.out.now in
    let v = c.scan_truth.new.out in
    let k = ap kind_of c.in-Bool.is ∙ kind_bool in
    on_both c.scan_truth.result
    (λ own past fs.
    let size : v.place - start + length (written u) ≡ u.place - start + length (written v) = omega (arith, place_is u, place_is v, c.requires.start, past) in
    simple_left f.0 f.1 _ c.args.first (drop c.args.at.now line) (drop c.eat_front.new.at line) (drop c.scan_truth.new.at line) (written u) (written v) (u.place - start) (v.place - start) k c.in_ok-eat_front.ensures size own fs)
    c.scan_truth.ensures.scanned c.scan_truth.ensures.place

pub structures::scan_named-returns-in-Uint-clause-scanned : goal.structures::scan_named-returns-in-Uint-clause-scanned
structures::scan_named-returns-in-Uint-clause-scanned t c =
    let f = named c.args.field.now in
    let line = c.args.line.now in
    let start = c.args.start in
    let u = c.args.out.now in
    let v = c.scan_unsigned.new.out in
    let k = ap kind_of c.in-Uint.is ∙ kind_uint c.in-Uint.bits _ in
    on_both c.scan_unsigned.result
    (λ own past fs.
    let size : v.place - start + length (written u) ≡ u.place - start + length (written v) = omega (arith, place_is u, place_is v, c.requires.start, past) in
    simple_left f.0 f.1 _ c.args.first (drop c.args.at.now line) (drop c.eat_front.new.at line) (drop c.scan_unsigned.new.at line) (written u) (written v) (u.place - start) (v.place - start) k c.in_ok-eat_front.ensures size (own _) fs)
    c.scan_unsigned.ensures.scanned c.scan_unsigned.ensures.place

pub structures::scan_named-returns-in-Int-clause-scanned : goal.structures::scan_named-returns-in-Int-clause-scanned
structures::scan_named-returns-in-Int-clause-scanned t c =
    let f = named c.args.field.now in
    let line = c.args.line.now in
    let start = c.args.start in
    let u = c.args.out.now in
    let v = c.scan_signed.new.out in
    let k = ap kind_of c.in-Int.is ∙ kind_int c.in-Int.bits in
    on_both c.scan_signed.result
    (λ own past fs.
    let size : v.place - start + length (written u) ≡ u.place - start + length (written v) = omega (arith, place_is u, place_is v, c.requires.start, past) in
    simple_left f.0 f.1 _ c.args.first (drop c.args.at.now line) (drop c.eat_front.new.at line) (drop c.scan_signed.new.at line) (written u) (written v) (u.place - start) (v.place - start) k c.in_ok-eat_front.ensures size own fs)
    c.scan_signed.ensures.scanned c.scan_signed.ensures.place

pub structures::scan_named-returns-in-Float-clause-scanned : goal.structures::scan_named-returns-in-Float-clause-scanned
structures::scan_named-returns-in-Float-clause-scanned t c =
    let f = named c.args.field.now in
    let line = c.args.line.now in
    let start = c.args.start in
    let u = c.args.out.now in
    let v = c.scan_float.new.out in
    let k = ap kind_of c.in-Float.is ∙ kind_float c.in-Float.bits _ in
    on_both c.scan_float.result
    (λ own past fs.
    let size : v.place - start + length (written u) ≡ u.place - start + length (written v) = omega (arith, place_is u, place_is v, c.requires.start, past) in
    simple_left f.0 f.1 _ c.args.first (drop c.args.at.now line) (drop c.eat_front.new.at line) (drop c.scan_float.new.at line) (written u) (written v) (u.place - start) (v.place - start) k c.in_ok-eat_front.ensures size (own true) fs)
    c.scan_float.ensures.scanned c.scan_float.ensures.place

pub structures::scan_named-returns-in_ok-put_lead-in_default-clause-scanned : goal.structures::scan_named-returns-in_ok-put_lead-in_default-clause-scanned
structures::scan_named-returns-in_ok-put_lead-in_default-clause-scanned t c =
    let f = named c.args.field.now in
    let line = c.args.line.now in
    let start = c.args.start in
    let w0 = c.args.out.now in
    let w1 = c.put_lead.new.out in
    let w2 = c.scan_composite.new.out in
    on_both c.scan_composite.result
    (λ part past fs.
    let size : w2.place - start + length (written w0) ≡ w0.place - start + length (written w2) = omega (arith, place_is w0, place_is w2, c.requires.start, c.in_ok-put_lead-in_default.ensures.place, past) in
    named_left f.0 f.1 c.args.first (drop c.args.at.now line) (drop c.eat_front.new.at line) (drop c.scan_composite.new.at line) (written w0) (written w1) (written w2) (w0.place - start) (w2.place - start)
    c.requires.typed c.in_ok-eat_front.ensures c.in_ok-put_lead-in_default.ensures.bits size part fs)
    c.scan_composite.ensures.scanned c.scan_composite.ensures.place

pub structures::scan_struct-returns-clause-scanned : goal.structures::scan_struct-returns-clause-scanned
structures::scan_struct-returns-clause-scanned t c =
    let body = body_of c.args.body.now in
    let line = c.args.line.now in
    let u = c.args.out.now in
    let v = c.scan_fields.new.out in
    let n = v.place - u.place in
    let size : length (written v) ≡ n + length (written u) = omega (arith, place_is u, place_is v, c.in_ok-scan_fields.ensures.place) in
    on_ok c.put_gap.result
    (λ w. struct_scanned body.0 body.1 (drop c.args.at.now line) (drop c.eat.new.at line) (drop c.scan_fields.new.at line) (drop c.eat-2.new.at line) (written u) (written v) (written c.put_gap.new.self) n
    c.in_ok-eat.ensures c.in_ok-eat-2.ensures size w c.in_ok-scan_fields.ensures.scanned)
    c.put_gap.ensures.bits

pub scan::scan_counted-returns-clause-scanned : goal.scan::scan_counted-returns-clause-scanned
scan::scan_counted-returns-clause-scanned t c =
    let line = c.args.line.now in
    let w0 = c.args.out.now in
    let w2 = c.scan_own.new.out in
    let size = ap (λ n. (n - 32) / 8) (λ i. sym (place_is w2) i - sym (place_is w0) i) in
    on_ok c.patch.result
    (λ patch. counted_part (sch c.args.schema.now) (drop c.args.at.now line) (drop c.scan_own.new.at line) (written w0) (written c.put.new.self) (written w2) (written c.patch.new.self) w0.place _
    c.requires c.in_ok-put.ensures.bits (sym (place_is w0)) size patch c.in_ok-scan_own.ensures.scanned)
    c.patch.ensures.bits

pub arrays::scan_fixed-returns-clause-scanned : goal.arrays::scan_fixed-returns-clause-scanned
arrays::scan_fixed-returns-clause-scanned t c =
    let line = c.args.line.now in
    let n = c.in_ok-count.count in
    let e : n ≡ c.args.len = omega (arith, c.if-count-len.false) in
    let a = drop c.args.at.now line in
    let d = drop c.scan_array.new.at line in
    let u = written c.args.out.now in
    let v = written c.scan_array.new.out in
    let s = sch c.args.item.now in
    subst (λ m. Scans (λ x. Fits (D.Fixed s m) x) (λ x. value_text (D.Fixed s m) x) (λ x. own_bits (D.Fixed s m) x) a d u v) e (fixed_scanned s n a d u v c.in_ok-count.ensures.scanned)

pub arrays::scan_item-returns-clause-scanned : goal.arrays::scan_item-returns-clause-scanned
arrays::scan_item-returns-clause-scanned t c =
    let line = c.args.line.now in
    on_ok c.scan_part.result
    (λ part. item_left (sch c.args.item.now) c.args.first (drop c.args.at.now line) (drop c.eat_lead.new.at line) (drop c.scan_part.new.at line) (written c.args.out.now) (written c.scan_part.new.out) c.in_ok-eat_lead.ensures part)
    c.scan_part.ensures.scanned

pub arrays::scan_items-returns-then-eq-clause-scanned : goal.arrays::scan_items-returns-then-eq-clause-scanned
arrays::scan_items-returns-then-eq-clause-scanned t c =
    let line = c.args.line.now in
    row_left_end (sch c.args.item.now) (drop c.args.at.now line) (drop c.loop-index.at line) (written c.args.out.now) (written c.loop-index.out) c.loop-index.index _ c.loop-index.invariant.left

pub arrays::scan_items-returns-clause-scanned : goal.arrays::scan_items-returns-clause-scanned
arrays::scan_items-returns-clause-scanned t c =
    let line = c.args.line.now in
    let e : c.loop-index.index ≡ c.args.most = omega (arith, c.loop-index-test.false, c.loop-index.auto.index-end) in
    let all = row_left_end (sch c.args.item.now) (drop c.args.at.now line) (drop c.loop-index.at line) (written c.args.out.now) (written c.loop-index.out) c.loop-index.index _ c.loop-index.invariant.left in
    subst (λ n. RowScans (sch c.args.item.now) true n (drop c.args.at.now line) (drop c.loop-index.at line) (written c.args.out.now) (written c.loop-index.out)) e all

pub arrays::scan_row-returns-in-Bool-clause-scanned : goal.arrays::scan_row-returns-in-Bool-clause-scanned
arrays::scan_row-returns-in-Bool-clause-scanned t c =
    let line = c.args.line.now in
    let k = ap type_of (ap kind_of c.in-Bool.is ∙ kind_bool) in
    if_ok c.scan_truths.result
    (λ n row. subst (λ s. RowScans s true n (drop c.args.at.now line) (drop c.scan_truths.new.at line) (written c.args.out.now) (written c.scan_truths.new.out)) (sym k) row)
    c.scan_truths.ensures.scanned

pub arrays::scan_var-returns-clause-scanned : goal.arrays::scan_var-returns-clause-scanned
arrays::scan_var-returns-clause-scanned t c =
    let line = c.args.line.now in
    let w0 = c.args.out.now in
    let n = c.in_ok-count.count in
    let few : n ≤ c.args.cap = omega (arith, c.if-count-cap.false) in
    let width = c.length_field_bits-width.ensures.value in
    let w = c.length_field_bits-width.result in
    on_ok c.patch.result
    (λ patch. var_scanned (sch c.args.item.now) c.args.cap n w w0.place (drop c.args.at.now line) (drop c.scan_array.new.at line) (written w0) (written c.put.new.self) (written c.scan_array.new.out) (written c.patch.new.self)
    few width c.in_ok-put.ensures.bits (sym (place_is w0)) (subst (λ m. IsPatched (written c.scan_array.new.out) w0.place (bits_of w m) (written c.patch.new.self)) c.from.ensures patch) c.in_ok-count.ensures.scanned)
    c.patch.ensures.bits

pub unions::scan_union-returns-clause-scanned : goal.unions::scan_union-returns-clause-scanned
unions::scan_union-returns-clause-scanned t c =
    let body = body_of c.args.body.now in
    let line = c.args.line.now in
    let u = c.args.out.now in
    let v = c.scan_variant.new.out in
    let n = v.place - u.place in
    let width : c.tag_bits.result ≡ tag_bits (variants body.0) = c.tag_bits.ensures.value in
    let size : length (written v) ≡ n + length (written u) = omega (arith, place_is u, place_is v, c.in_ok-scan_variant.ensures.place, c.in_ok-put.ensures.place) in
    on_ok c.put_gap.result
    (λ w. union_scanned body.0 body.1 (drop c.args.at.now line) (drop c.eat.new.at line) (drop c.scan_variant.new.at line) (drop c.eat-2.new.at line) (written u) (written c.put.new.self) (written v) (written c.put_gap.new.self)
    c.tag_bits.result c.tag_at-tag.result n width c.in_ok-eat.ensures c.in_ok-eat-2.ensures c.in_ok-put.ensures.bits size w c.in_ok-scan_variant.ensures.scanned)
    c.put_gap.ensures.bits

pub unions::scan_variant-returns-then-left-eq0-clause-scanned : goal.unions::scan_variant-returns-then-left-eq0-clause-scanned
unions::scan_variant-returns-then-left-eq0-clause-scanned t c =
    let line = c.args.line.now in
    let items = c.as_slice-field-items.result.now in
    let i = c.loop-field.field-index in
    let f = c.field-item.result in
    let inv = c.loop-field.invariant in
    on_ok c.scan_part.result
    (λ part.
    let here = variant_found c.args.body.now items i f c.args.tag c.loop-field.left (drop c.loop-field.at line) (drop c.eat_name.new.at line) (drop c.scan_part.new.at line) (written c.loop-field.out) (written c.scan_part.new.out)
    c.as_slice-field-items.ensures c.loop-field-test.true c.field-item.is (sym c.is_padding.ensures ∙ c.if-not-is_padding.true) c.if-left-eq0.true c.in_ok-eat_name.ensures part inv.left in
    subst (λ n. VariantScans (body_of c.args.body.now).0 c.args.tag (drop n line) (drop c.scan_part.new.at line) (written c.args.out.now) (written c.scan_part.new.out)) inv.at
    (subst (λ l. VariantScans (body_of c.args.body.now).0 c.args.tag (drop c.loop-field.at line) (drop c.scan_part.new.at line) l (written c.scan_part.new.out)) inv.out here))
    c.scan_part.ensures.scanned

pub unions::scan_variant-loop-field-preserved : goal.unions::scan_variant-loop-field-preserved
unions::scan_variant-loop-field-preserved t c =
    let items = c.as_slice-field-items.result.now in
    let i = c.loop-field.field-index in
    let f = c.field-item.result in
    let left = c.loop-field.left in
    let inv = c.loop-field.invariant in
    record {
      left = elim c.if-not-is_padding.branch [
        | unions::scan_variant-then-not-is_padding+else-left-eq0 w ↦
            subst (λ m. LeavesVariant (flds items) c.args.tag (flds (drop (i + 1) items)) m) (sym w.left-is)
            (let one : 1 ≤ left = omega (arith, w.if-left-eq0.false) in
            variant_later items i f c.args.tag left (flds items) c.loop-field-test.true c.field-item.is (sym c.is_padding.ensures ∙ w.if-not-is_padding.true) one inv.left)
        | unions::scan_variant-else-not-is_padding w ↦
            subst (λ m. LeavesVariant (flds items) c.args.tag (flds (drop (i + 1) items)) m) (sym w.left-is)
            (variant_skip items i f c.args.tag left (flds items) c.loop-field-test.true c.field-item.is (sym c.is_padding.ensures ∙ w.if-not-is_padding.false) inv.left)
      ];
      at = inv.at;
      out = inv.out;
      past = inv.past;
    }

pub arrays::scan_array-returns-then-is_uint8-clause-scanned : goal.arrays::scan_array-returns-then-is_uint8-clause-scanned
arrays::scan_array-returns-then-is_uint8-clause-scanned t c =
    let u = uint8_is (sch c.args.item.now) (sym c.is_uint8.ensures ∙ c.if-is_uint8.true) in
    if_ok c.scan_bytes.result
    (λ n bytes. subst (λ s. IsArray s n c.args.line.now c.args.at.now c.args.out.now c.scan_bytes.new.at c.scan_bytes.new.out) (sym u.1) (bytes u.0))
    c.scan_bytes.ensures.scanned

pub scan::scan_part-returns-in-Uint-clause-scanned : goal.scan::scan_part-returns-in-Uint-clause-scanned
scan::scan_part-returns-in-Uint-clause-scanned t c =
    let line = c.args.line.now in
    let k = ap type_of (ap kind_of c.in-Uint.is ∙ kind_uint c.in-Uint.bits _) in
    on_ok c.scan_unsigned.result
    (λ own. simple_part (sch c.args.schema.now) _ (drop c.args.at.now line) (drop c.scan_unsigned.new.at line) (written c.args.out.now) (written c.scan_unsigned.new.out) k (own _))
    c.scan_unsigned.ensures.scanned

pub scan::scan_part-returns-in-Float-clause-scanned : goal.scan::scan_part-returns-in-Float-clause-scanned
scan::scan_part-returns-in-Float-clause-scanned t c =
    let line = c.args.line.now in
    let k = ap type_of (ap kind_of c.in-Float.is ∙ kind_float c.in-Float.bits _) in
    on_ok c.scan_float.result
    (λ own. simple_part (sch c.args.schema.now) _ (drop c.args.at.now line) (drop c.scan_float.new.at line) (written c.args.out.now) (written c.scan_float.new.out) k (own true))
    c.scan_float.ensures.scanned
