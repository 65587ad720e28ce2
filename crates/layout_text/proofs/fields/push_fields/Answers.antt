use Rattle.std.proofs.Common.{◌++◌, ◌∙◌, ap}
use Rattle.dsdl_types.specs.Views.{sch}
use Rattle.layout.specs.Layouts.{fields_of}
use Rattle.layout_text.specs.Fields.{field_line}
use Rattle.layout_text.specs.Sets.{set_text}
use Rattle.layout_text.proofs.FieldLines.{none_written, more_written, all_written}
use Rattle.layout_text.proofs.fields.push_fields.Goals as goal

pub loop-i-init : goal.loop-i-init
loop-i-init c = none_written _ _ _ _

pub loop-i-preserved : goal.loop-i-preserved
loop-i-preserved c =
    let row = c.index-rows-i.result in
    let of_type = c.index-types-i.result in
    let line = c.in_ok-push_field.ensures.text ∙ ap (λ u. c.loop-i.text.items ++ field_line u c.loop-i.i row.name of_type (set_text row.offsets) (set_text row.lengths)) c.is_union-union.ensures in
    more_written (sch c.args.schema.now) (fields_of (sch c.args.schema.now)) c.args.rows.now c.args.types.now c.loop-i.i _ _ _ row of_type c.requires.rows c.requires.texts c.loop-i-test.true c.index-rows-i.is c.index-types-i.is c.in_ok-push_field.ensures.offsets c.in_ok-push_field.ensures.lengths c.loop-i.invariant line

pub returns : goal.returns
returns c = all_written (sch c.args.schema.now) (fields_of (sch c.args.schema.now)) c.args.rows.now c.args.types.now c.loop-i.i _ _ c.requires.rows c.requires.texts c.loop-i-test.false c.loop-i.invariant
