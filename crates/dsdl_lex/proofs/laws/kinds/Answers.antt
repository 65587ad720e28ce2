use Rattle.dsdl_lex.proofs.KindLaw.{one_kind, not_empty}
use Rattle.dsdl_lex.proofs.laws.kinds.Goals as goal

pub returns : goal.returns
returns c = record { one_kind = one_kind; not_empty = not_empty }
