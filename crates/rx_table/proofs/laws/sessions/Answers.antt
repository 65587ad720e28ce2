use Rattle.rx_table.proofs.Simulation.{simulates}
use Rattle.rx_table.proofs.laws.sessions.Goals as goal

pub returns : goal.returns
returns c = simulates
