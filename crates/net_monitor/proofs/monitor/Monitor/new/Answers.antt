use Rattle.net_monitor.proofs.Kept.{first_kept}
use Rattle.net_monitor.proofs.monitor.Monitor.new.Goals as goal

pub returns-clause-stands : goal.returns-clause-stands
returns-clause-stands c = record { kept = first_kept; order = tt; latest = tt }
