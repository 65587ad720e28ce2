use Rattle.explain_laws.proofs.Examples.{text_is}
use Rattle.explain_laws.proofs.text_example.Goals as goal

pub returns : goal.returns
returns c = text_is
