use Rattle.std.proofs.Common.{◌≡◌, ℕ, ◌<◌, ◌≤◌}
use Rattle.net_monitor.specs.Online.{gathered}
use Rattle.net_monitor.specs.Renewals.{kept_gone, kept_until}
use Rattle.net_monitor.proofs.monitor.Monitor.gone.Given as goal

-- those below this number, and until when none of them goes
abbrev pub invariant-loop-node : goal.invariant-loop-node
invariant-loop-node l = record {
  nodes : l.nodes ≡ gathered (kept_gone l.before l.moment l.self.nodes) l.node;
  calm : (s : ℕ) → s < l.node → l.calm ≤ kept_until l.moment l.self.nodes s;
}
