use Rattle.type_changes.proofs.Whole.{same_changes}
use Rattle.type_changes.proofs.laws.with_itself.Goals as goal

pub returns : goal.returns
returns c = same_changes
