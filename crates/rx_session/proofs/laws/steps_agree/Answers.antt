use Rattle.rx_session.proofs.Agreement.{steps_agree}
use Rattle.rx_session.proofs.laws.steps_agree.Goals as goal

pub returns : goal.returns
returns c = steps_agree
