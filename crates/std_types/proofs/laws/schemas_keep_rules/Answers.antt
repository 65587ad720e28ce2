use Rattle.std_types.proofs.SchemaRules.{schema_rules, schema_composite}
use Rattle.std_types.proofs.laws.schemas_keep_rules.Goals as goal

pub returns-clause-rules : goal.returns-clause-rules
returns-clause-rules c = schema_rules

pub returns-clause-composite : goal.returns-clause-composite
returns-clause-composite c = schema_composite
