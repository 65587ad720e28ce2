use Rattle.dsdl_types.specs.Views.{sch}
use Rattle.layout_text.proofs.Texts.{whole_ok}
use Rattle.layout_text.proofs.definition.push_composite.Goals as goal

pub returns : goal.returns
returns c =
    whole_ok c.push_fields.result c.args.role c.args.id.now c.args.port (sch c.args.schema.now) c.args.types.now c.args.layout.now.lengths c.args.text.now.items c.push_named.new.text.items c.push_outline.new.text.items c.push_fields.new.text.items c.requires.layout.whole c.in_ok-push_outline.ensures.ascending c.in_ok-push_named.ensures c.in_ok-push_outline.ensures.text c.push_fields.ensures
