use Rattle.dsdl_resolve.proofs.MoreTotals.{field_totals}
use Rattle.dsdl_resolve.proofs.totals.Totals.with_field.Goals as goal

pub returns-clause-totals : goal.returns-clause-totals
returns-clause-totals c = λ union fs f h typed is. field_totals c.args.self c.args.field union fs f _ _ h typed is c.end_with.ensures.value c.max.ensures
