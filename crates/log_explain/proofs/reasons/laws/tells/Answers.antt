use Rattle.log_explain.proofs.Deliveries.{tells_are}
use Rattle.log_explain.proofs.reasons.laws.tells.Goals as goal

pub returns : goal.returns
returns c = tells_are
