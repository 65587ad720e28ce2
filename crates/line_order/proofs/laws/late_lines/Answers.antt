use Rattle.line_order.proofs.LawLemmas.{late_if, late_then, said_timely}
use Rattle.line_order.proofs.laws.late_lines.Goals as goal

pub returns-clause-exactly : goal.returns-clause-exactly
returns-clause-exactly c window past line = (late_if window past line, late_then window past line)

pub returns-clause-none : goal.returns-clause-none
returns-clause-none c = said_timely
