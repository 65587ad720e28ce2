use Rattle.std.proofs.Common.{subst, sym}
use Rattle.std.specs.Prelude.{IfSome}
use Rattle.dsdl_types.specs.Definitions.{IsDefinition}
use Rattle.node_plan.proofs.TypeLemmas.{definition_rules, no_type}
use Rattle.node_plan.proofs.types.shape_named.Goals as goal

pub returns-in_default-clause-value : goal.returns-in_default-clause-value
returns-in_default-clause-value c = no_type c.args.names.now c.args.word.now c.in_default.ensures.cases.0

pub message_in-requires : goal.message_in-requires
message_in-requires c = subst (λ found. IfSome found IsDefinition) (sym c.in-Some.ensures.value)
    (definition_rules c.args.names.now.definitions c.in-Ok-parse_type_id.id c.requires)
