use Rattle.type_changes.proofs.Whole.{one_entry}
use Rattle.type_changes.proofs.laws.one_entry.Goals as goal

pub returns : goal.returns
returns c = one_entry
