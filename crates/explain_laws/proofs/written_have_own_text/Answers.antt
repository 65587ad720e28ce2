use Rattle.explain_laws.proofs.Written.{have_own_text}
use Rattle.explain_laws.proofs.written_have_own_text.Goals as goal

pub returns : goal.returns
returns c = have_own_text c.ordered.ensures.fit
