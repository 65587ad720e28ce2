use Rattle.std.proofs.Common.{◌≡◌}
use Rattle.net_monitor.specs.Online.{gathered}
use Rattle.net_monitor.specs.Kept.{kept_online}
use Rattle.net_monitor.proofs.monitor.Monitor.online.Given as goal

-- those below this number
abbrev pub invariant-loop-node : goal.invariant-loop-node
invariant-loop-node l = l.list ≡ gathered (kept_online l.moment l.self.nodes) l.node
