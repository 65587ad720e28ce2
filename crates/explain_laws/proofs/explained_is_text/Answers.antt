use Rattle.explain_laws.proofs.Written.{explained_is_text}
use Rattle.explain_laws.proofs.explained_is_text.Goals as goal

pub returns : goal.returns
returns c = explained_is_text
