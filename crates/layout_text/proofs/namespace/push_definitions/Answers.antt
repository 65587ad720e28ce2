use Rattle.layout_text.proofs.Texts.{none_told, more_told, all_told, definition_at}
use Rattle.layout_text.proofs.namespace.push_definitions.Goals as goal

pub loop-definition-init : goal.loop-definition-init
loop-definition-init c = none_told _ _

pub push_definition-requires : goal.push_definition-requires
push_definition-requires c = definition_at c.args.definitions.now c.loop-definition.definition-index c.definition-item.result c.requires c.loop-definition-test.true c.definition-item.is

pub loop-definition-preserved : goal.loop-definition-preserved
loop-definition-preserved c =
    more_told c.args.definitions.now c.loop-definition.definition-index c.definition-item.result c.args.text.now.items c.loop-definition.text.items c.push_definition.new.text.items c.loop-definition-test.true c.definition-item.is c.loop-definition.invariant c.in_ok-push_definition.ensures

pub returns : goal.returns
returns c = all_told c.args.definitions.now c.loop-definition.definition-index c.args.text.now.items c.loop-definition.text.items c.loop-definition-test.false c.loop-definition.invariant
