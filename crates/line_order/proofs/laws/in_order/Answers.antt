use Rattle.line_order.proofs.LawLemmas.{said_kept, said_sorted}
use Rattle.line_order.proofs.SortedLemmas.{order_one}
use Rattle.line_order.proofs.laws.in_order.Goals as goal

pub returns-clause-sorted : goal.returns-clause-sorted
returns-clause-sorted c = said_sorted

pub returns-clause-one : goal.returns-clause-one
returns-clause-one c = order_one

pub returns-clause-kept : goal.returns-clause-kept
returns-clause-kept c = said_kept
