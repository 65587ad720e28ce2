use Rattle.std.proofs.Common.{rules, sym}
use Rattle.dsdl_types.specs.Views.{val}
use Rattle.dsdl_types.specs.declared.schema.Schema.TheFolds.{the_lemmas}
use Rattle.value_text.proofs.Left.{fields_written, items_fit, array_written, variant_written}
use Rattle.value_text.proofs.print.+print.Goals as goal

pub push_fields-returns : goal.push_fields-returns
push_fields-returns t c = fields_written c.args.body.now c.as_slice-field-items.result.now c.loop-field.field-index c.loop-field.next c.args.values.now _ _ c.as_slice-field-items.ensures c.loop-field-test.false c.loop-field.invariant.text

pub push_value-push_array-requires : goal.push_value-push_array-requires
push_value-push_array-requires t c =
    let fit = items_fit c.args.schema.now c.in-Fixed.item c.get.result.now (val c.args.value.now) _ c.in-Fixed.is c.get.ensures c.requires c.items.ensures in
    (search (rules, the_lemmas), fit)

pub push_value-returns-in-Fixed : goal.push_value-returns-in-Fixed
push_value-returns-in-Fixed t c =
    array_written c.push_array.result c.args.schema.now c.in-Fixed.item c.get.result.now (val c.args.value.now) _ _ _ c.in-Fixed.is c.get.ensures c.items.ensures c.push_array.ensures

pub push_variant-returns-then-left-eq0 : goal.push_variant-returns-then-left-eq0
push_variant-returns-then-left-eq0 t c =
    variant_written c.push_entry.result c.args.body.now c.as_slice-field-items.result.now c.loop-field.field-index c.field-item.result c.loop-field.left c.args.tag (val c.args.value.now) _ _ _ c.loop-field.invariant.same c.as_slice-field-items.ensures c.loop-field-test.true c.field-item.is c.if-left-eq0.true (sym c.if-not-is_padding.ensures) c.loop-field.invariant.text c.push_entry.ensures
