-- Heartbeats, and how they tell a node is. Heartbeats are a list with the newest first.
use Rattle.std.specs.Prelude.{ℕ, ◌+◌, ◌-◌, ◌^◌, ◌==◌, nat_lt, min, if◌then◌else◌, List, [], ◌∷◌}
use Rattle.std.specs.Prelude.{Option, Some, None}
use Rattle.std_types.specs.declared.node.Heartbeat.{Heartbeat}
use Rattle.net_monitor.specs.declared.node_state.NodeState.{NodeState}

-- a heartbeat that was heard: its moment, its node, and what it says
pub record Beat : Type 0 where
  pub moment : ℕ
  pub node : ℕ
  pub beat : Heartbeat

-- the heartbeats of one node
abbrev pub of_node : ℕ → List Beat → List Beat
of_node s [] = []
of_node s (e ∷ past) = if e.node == s then e ∷ of_node s past else of_node s past

-- how many of one node's heartbeats have an uptime below that of the heartbeat before
abbrev pub restarts : List Beat → ℕ
restarts [] = 0
restarts (b ∷ []) = 0
restarts (b ∷ a ∷ older) = restarts (a ∷ older) + (if nat_lt b.beat.uptime a.beat.uptime then 1 else 0)

-- the number of restarts, or 2^64 - 1 where it is greater
abbrev pub capped_restarts : List Beat → ℕ
capped_restarts beats = min (restarts beats) (2 ^ 64 - 1)

-- how the node s is by its heartbeats, if there is one: by the last one, and its restarts
abbrev pub state_by : ℕ → List Beat → Option NodeState
state_by s [] = None
state_by s (b ∷ older) = Some (record { node = s; beat = b.beat; last = b.moment; restarts = capped_restarts (b ∷ older) })

-- how the node s is
abbrev pub state_of : ℕ → List Beat → Option NodeState
state_of s past = state_by s (of_node s past)
