use Rattle.dsdl_types.proofs.Evolving.{composite_bounds}
use Rattle.dsdl_types.proofs.SchemaRules.{schema_sound}
use Rattle.wire_values.proofs.laws.extent_has_room.Goals as goal

pub returns : goal.returns
returns c = λ s rules composite. (composite_bounds s (schema_sound s rules) composite).0
