use Rattle.session_lines.proofs.Projection.{reported_is}
use Rattle.session_lines.proofs.laws.reported.Goals as goal

pub returns : goal.returns
returns c = reported_is c.delivered_steps.ensures c.quiet.ensures
