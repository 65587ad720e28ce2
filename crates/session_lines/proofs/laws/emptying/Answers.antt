use Rattle.session_lines.proofs.Sending.{emptying_is_quiet, steps_report_all}
use Rattle.session_lines.proofs.laws.emptying.Goals as goal

pub returns-clause-quiet : goal.returns-clause-quiet
returns-clause-quiet c = emptying_is_quiet

pub returns-clause-reported : goal.returns-clause-reported
returns-clause-reported c = steps_report_all
