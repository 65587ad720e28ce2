use Rattle.std.proofs.Common.{◌≡◌, ◌∙◌, ◌+◌, ◌==◌, true, false, drop, sym, ap, subst, arith, rules, IfOk}
use Rattle.std.proofs.lemmas.Bool.Decides.{nat_tests}
use Rattle.std.specs.Prelude.{is_some, None}
use Rattle.dsdl_types.specs.Schemas.{variants}
use Rattle.dsdl_types.specs.Values.{Items, count}
use Rattle.dsdl_types.specs.Views.{body_of, flds, is_saturated, named, sch, type_of, val, vals}
use Rattle.dsdl_types.specs.declared.schema.Schema.TheFolds.{the_lemmas}
use Rattle.dsdl_types.proofs.Equations.{kind_float, kind_int, kind_uint, kind_void, val_items}
use Rattle.wire_values.specs.Found.{found}
use Rattle.wire_values.specs.Misfits.{either, in_items, misfit, misfit_fields, unless}
use Rattle.wire_values.proofs.Schemata.{fields_are, flds_end, flds_next, vals_next}
use Rattle.wire_values.proofs.Paths.{count_is, either_some, field_misfit, right_many, too_few, too_many, value_there}
use Rattle.wire_values.proofs.Writings.{count_vals}
use Rattle.wire_values.proofs.misfit.+misfit.Goals as goal
use Rattle.wire_values.proofs.misfit.+misfit.Goals.{array_misfit-then-items-least-via-then-items-least, array_misfit-then-items-least-via-else-items-least+then-items-most}

pub array_misfit-returns-then-items-least : goal.array_misfit-returns-then-items-least
array_misfit-returns-then-items-least t c =
    let items = c.as_slice-items.result.now in
    let is : val c.args.value.now ≡ Items (vals items) = ap val c.in-Items.is ∙ val_items c.in-Items.items ∙ ap (λ l. Items (vals l)) (sym c.as_slice-items.ensures) in
    c.unless.ensures
    ∙ sym (ap (λ v. in_items c.args.least c.args.most (λ x. misfit (sch c.args.item.now) x) v) is
    ∙ elim c.then-items-least.branch [
      | array_misfit-then-items-least-via-then-items-least w ↦ too_few c.args.least c.args.most (λ x. misfit (sch c.args.item.now) x) items w.if-items-least.true
      | array_misfit-then-items-least-via-else-items-least+then-items-most w ↦ too_many c.args.least c.args.most (λ x. misfit (sch c.args.item.now) x) items w.if-items-most.true
    ])

pub array_misfit-returns-else-items-most : goal.array_misfit-returns-else-items-most
array_misfit-returns-else-items-most t c =
    let items = c.as_slice-items.result.now in
    let is : val c.args.value.now ≡ Items (vals items) = ap val c.in-Items.is ∙ val_items c.in-Items.items ∙ ap (λ l. Items (vals l)) (sym c.as_slice-items.ensures) in
    let e = ap (λ v. in_items c.args.least c.args.most (λ x. misfit (sch c.args.item.now) x) v) is ∙ right_many c.args.least c.args.most (λ x. misfit (sch c.args.item.now) x) items c.if-items-least.false c.if-items-most.false in
    subst (λ r. IfOk c.items_misfit.result (λ m. found m ≡ r)) (sym e) c.items_misfit.ensures

pub fields_misfit-returns-then-is_some : goal.fields_misfit-returns-then-is_some
fields_misfit-returns-then-is_some t c =
    let items = c.as_slice-field-items.result.now in
    let i = c.loop-field.field-index in
    let x = c.field-item.result in
    let k = (named x).1 in
    let values = c.args.values.now in
    let next = c.loop-field.next in
    let v = c.index-values-next.result in
    let fs = flds (drop (i + 1) items) in
    let vs = vals (drop (next + 1) values) in
    let inv = c.loop-field.invariant in
    let typed = sym c.is_padding.ensures ∙ c.if-not-is_padding.true in
    let now = flds_next items i x c.loop-field-test.true c.field-item.is in
    let within = value_there (named x).0 k fs values next typed (inv.whole ∙ ap (λ gs. variants gs) now) in
    let here = c.in_ok-here.here in
    let some : is_some here ≡ true = sym c.is_some.ensures ∙ c.if-is_some.true in
    sym (either_some here (misfit_fields fs vs) some)
    ∙ ap (λ m. either m (misfit_fields fs vs)) c.in_ok-here.ensures
    ∙ sym (field_misfit (named x).0 k fs (val v) vs typed)
    ∙ (λ j. misfit_fields (sym now j) (sym (vals_next values next v within c.index-values-next.is) j))
    ∙ inv.same
    ∙ ap (λ gs. misfit_fields gs (vals values)) (fields_are c.args.body.now items c.as_slice-field-items.ensures)

pub fields_misfit-returns : goal.fields_misfit-returns
fields_misfit-returns t c =
    let items = c.as_slice-field-items.result.now in
    let values = c.args.values.now in
    ap (λ gs. misfit_fields gs (vals (drop c.loop-field.next values))) (sym (flds_end items c.loop-field.field-index c.loop-field-test.false))
    ∙ c.loop-field.invariant.same
    ∙ ap (λ gs. misfit_fields gs (vals values)) (fields_are c.args.body.now items c.as_slice-field-items.ensures)

pub misfit-returns-in-Uint : goal.misfit-returns-in-Uint
misfit-returns-in-Uint t c =
    let v = val c.args.value.now in
    c.unless-in-Uint.ensures
    ∙ ap (λ b. unless b None) (c.is_number.ensures.unsigned c.in-Uint.bits (is_saturated c.in-Uint.cast))
    ∙ sym (ap (λ s. misfit (sch s) v) c.in-Uint.is ∙ ap (λ k. misfit (type_of k) v) (kind_uint c.in-Uint.bits c.in-Uint.cast))

pub misfit-returns-in-Int : goal.misfit-returns-in-Int
misfit-returns-in-Int t c =
    let v = val c.args.value.now in
    c.unless-in-Int.ensures
    ∙ ap (λ b. unless b None) (c.is_number-in-Int.ensures.signed c.in-Int.bits)
    ∙ sym (ap (λ s. misfit (sch s) v) c.in-Int.is ∙ ap (λ k. misfit (type_of k) v) (kind_int c.in-Int.bits))

pub misfit-returns-in-Void : goal.misfit-returns-in-Void
misfit-returns-in-Void t c =
    let v = val c.args.value.now in
    c.unless-in-Void.ensures
    ∙ ap (λ b. unless b None) (c.is_number-in-Void.ensures.unsigned 0 false)
    ∙ sym (ap (λ s. misfit (sch s) v) c.in-Void.is ∙ ap (λ k. misfit (type_of k) v) (kind_void c.in-Void.bits))

pub misfit-returns-in-Float : goal.misfit-returns-in-Float
misfit-returns-in-Float t c =
    let v = val c.args.value.now in
    c.unless-in-Float.ensures
    ∙ ap (λ b. unless b None) (c.is_raw.ensures (is_saturated c.in-Float.cast))
    ∙ sym (ap (λ s. misfit (sch s) v) c.in-Float.is ∙ ap (λ k. misfit (type_of k) v) (kind_float c.in-Float.bits c.in-Float.cast))

pub struct_misfit-returns-then-values-variants : goal.struct_misfit-returns-then-values-variants
struct_misfit-returns-then-values-variants t c =
    let fs = (body_of c.args.body.now).0 in
    let vs = vals c.args.values.now in
    let test : (count vs == variants fs) ≡ false = count_is c.args.values.now (variants fs) c.variants.result false c.variants.ensures (grind (arith, nat_tests)) in
    c.unless.ensures ∙ ap (λ b. unless b (misfit_fields fs vs)) (sym test)

pub struct_misfit-fields_misfit-requires : goal.struct_misfit-fields_misfit-requires
struct_misfit-fields_misfit-requires t c =
    (search (rules, the_lemmas), (c.requires, omega (arith, c.if-values-variants.false, c.variants.ensures, count_vals c.args.values.now)))

pub struct_misfit-returns : goal.struct_misfit-returns
struct_misfit-returns t c =
    let fs = (body_of c.args.body.now).0 in
    let vs = vals c.args.values.now in
    let test : (count vs == variants fs) ≡ true = count_is c.args.values.now (variants fs) c.variants.result true c.variants.ensures (grind (arith, nat_tests)) in
    subst (λ b. IfOk c.fields_misfit.result (λ m. found m ≡ unless b (misfit_fields fs vs))) (sym test) c.fields_misfit.ensures
