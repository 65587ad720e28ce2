use Rattle.dsdl_resolve.proofs.OneAnswer.{one_answer}
use Rattle.dsdl_resolve.proofs.laws.one_answer.Goals as goal

pub returns : goal.returns
returns c = one_answer c.one_parsing.ensures c.one_meaning.ensures c.one_order.ensures
