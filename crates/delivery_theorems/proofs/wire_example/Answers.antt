use Rattle.delivery_theorems.proofs.Premises.{wire_example}
use Rattle.delivery_theorems.proofs.wire_example.Goals as goal

pub returns : goal.returns
returns c = wire_example
