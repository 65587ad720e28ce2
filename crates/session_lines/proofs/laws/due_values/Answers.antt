use Rattle.session_lines.proofs.Values.{due_values_are}
use Rattle.session_lines.proofs.laws.due_values.Goals as goal

pub returns : goal.returns
returns c = due_values_are c.reported.ensures c.values.ensures c.due_in_report.ensures
