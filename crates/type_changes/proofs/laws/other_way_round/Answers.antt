use Rattle.type_changes.proofs.Whole.{turned}
use Rattle.type_changes.proofs.laws.other_way_round.Goals as goal

pub returns : goal.returns
returns c = turned
