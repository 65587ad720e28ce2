use Rattle.rx_table.proofs.Moments.{heard_in_time}
use Rattle.rx_table.proofs.laws.heard_in_time.Goals as goal

pub returns : goal.returns
returns c = heard_in_time
