use Rattle.delivery_theorems.proofs.Premises.{example}
use Rattle.delivery_theorems.proofs.example.Goals as goal

pub returns : goal.returns
returns c = example
