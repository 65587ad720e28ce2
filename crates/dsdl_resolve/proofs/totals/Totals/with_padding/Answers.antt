use Rattle.dsdl_resolve.proofs.MoreTotals.{padding_totals}
use Rattle.dsdl_resolve.proofs.totals.Totals.with_padding.Goals as goal

pub returns-clause-totals : goal.returns-clause-totals
returns-clause-totals c = λ union fs f h is. padding_totals c.args.self c.args.bits union fs f _ h is c.end_behind.ensures.value
