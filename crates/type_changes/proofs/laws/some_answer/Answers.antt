use Rattle.type_changes.proofs.Whole.{some_answer}
use Rattle.type_changes.proofs.laws.some_answer.Goals as goal

pub returns : goal.returns
returns c = some_answer
