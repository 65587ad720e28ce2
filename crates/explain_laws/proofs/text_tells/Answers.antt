use Rattle.explain_laws.proofs.Text.{text_tells}
use Rattle.explain_laws.proofs.text_tells.Goals as goal

pub returns : goal.returns
returns c = text_tells
