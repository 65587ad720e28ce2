use Rattle.rx_table.proofs.Tables.{port_simulates}
use Rattle.rx_table.proofs.laws.port_sessions.Goals as goal

pub returns : goal.returns
returns c = port_simulates
