use Rattle.rx_table.proofs.Sources.{quiet}
use Rattle.rx_table.proofs.laws.quiet.Goals as goal

pub returns : goal.returns
returns c = quiet
