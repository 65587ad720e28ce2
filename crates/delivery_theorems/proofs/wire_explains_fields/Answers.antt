use Rattle.delivery_theorems.proofs.Raws.{wire_explains_fields}
use Rattle.delivery_theorems.proofs.wire_explains_fields.Goals as goal

pub returns : goal.returns
returns c = wire_explains_fields
