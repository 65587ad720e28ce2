use Rattle.value_lines.proofs.OneAnswer.{one_encoding}
use Rattle.value_lines.proofs.laws.one_encoding.Goals as goal

pub returns : goal.returns
returns c = λ s rules. one_encoding c.one_value.ensures s rules
