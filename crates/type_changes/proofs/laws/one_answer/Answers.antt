use Rattle.type_changes.proofs.Whole.{one_answer}
use Rattle.type_changes.proofs.laws.one_answer.Goals as goal

pub returns : goal.returns
returns c = one_answer
