use Rattle.rx_table.proofs.Endings.{delivered_step}
use Rattle.rx_table.proofs.laws.delivered_steps.Goals as goal

pub returns : goal.returns
returns c = delivered_step
