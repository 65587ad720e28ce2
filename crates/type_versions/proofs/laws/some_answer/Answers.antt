use Rattle.type_versions.proofs.One.{some_answer}
use Rattle.type_versions.proofs.laws.some_answer.Goals as goal

pub returns : goal.returns
returns c = some_answer
