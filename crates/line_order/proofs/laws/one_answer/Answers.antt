use Rattle.line_order.proofs.LawLemmas.{one_answer}
use Rattle.line_order.proofs.laws.one_answer.Goals as goal

pub returns : goal.returns
returns c = one_answer
