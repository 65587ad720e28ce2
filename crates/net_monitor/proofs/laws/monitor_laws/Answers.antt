use Rattle.net_monitor.proofs.Told.{monitor_laws}
use Rattle.net_monitor.proofs.laws.monitor_laws.Goals as goal

pub returns : goal.returns
returns c = monitor_laws
