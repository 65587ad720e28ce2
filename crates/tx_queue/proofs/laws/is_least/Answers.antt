use Rattle.tx_queue.proofs.First.{is_least}
use Rattle.tx_queue.proofs.laws.is_least.Goals as goal

pub returns : goal.returns
returns c = is_least
