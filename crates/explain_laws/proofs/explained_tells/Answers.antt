use Rattle.explain_laws.proofs.Written.{explained_tells}
use Rattle.explain_laws.proofs.explained_tells.Goals as goal

pub returns : goal.returns
returns c = explained_tells c.explained_is_text.ensures c.text_tells.ensures c.written_have_own_text.ensures
