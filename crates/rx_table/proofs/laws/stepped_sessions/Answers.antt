use Rattle.rx_table.proofs.Simulation.{advances}
use Rattle.rx_table.proofs.laws.stepped_sessions.Goals as goal

pub returns : goal.returns
returns c = advances
