use Rattle.layout_text.proofs.Texts.{AreTold}
use Rattle.layout_text.proofs.namespace.push_definitions.Given as goal

abbrev pub invariant-loop-definition : goal.invariant-loop-definition
invariant-loop-definition l = AreTold l.definitions l.definition-index l.initial.text.items l.text.items
