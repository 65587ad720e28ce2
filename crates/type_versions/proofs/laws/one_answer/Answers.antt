use Rattle.type_versions.proofs.One.{one_answer}
use Rattle.type_versions.proofs.laws.one_answer.Goals as goal

pub returns : goal.returns
returns c = one_answer
