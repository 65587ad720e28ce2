use Rattle.dsdl_types.proofs.laws.rules_suffice.Goals as goal
use Rattle.dsdl_types.proofs.SchemaRules.{schema_sound}

pub returns : goal.returns
returns c = schema_sound
