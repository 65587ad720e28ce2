use Rattle.std.proofs.Common.{◌≡◌, drop}
use Rattle.node_reach.specs.Monitored.{state_in}
use Rattle.node_reach.proofs.monitoring.state_of.Given as goal

-- the nodes so far are others
abbrev pub invariant-loop-state : goal.invariant-loop-state
invariant-loop-state l = state_in l.node l.online ≡ state_in l.node (drop l.state-index l.online)
