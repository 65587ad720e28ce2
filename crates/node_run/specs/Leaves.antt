-- What leaves a node.
use Rattle.std.specs.Prelude.{◌≡◌, ℕ}
use Rattle.node_core.specs.Pops.{queue_at, with_waiting}
use Rattle.node_core.specs.Queues.{stay}
use Rattle.node_core.specs.Stands.{StandsAsBefore}
use Rattle.node_core.specs.Steps.{Kept}
use Rattle.node_core.specs.declared.node.Node.{Node}

-- what is kept once frames left a bus
abbrev pub bus_left : Kept → ℕ → Kept
bus_left k bus = record k {
  queues = with_waiting k.queues bus (stay (queue_at k.queues bus).rate (queue_at k.queues bus).waiting);
}

-- a node has the plan that it had, heard nothing more, and stands for the records that it stood for
pub record IsSameNode (old new : Node) : Type 0 where
  pub plan : new.plan ≡ old.plan
  pub latest : new.latest ≡ old.latest
  pub stands : StandsAsBefore old new
