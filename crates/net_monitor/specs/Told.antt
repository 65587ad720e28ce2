-- What changes tell: who is online, what it says of itself, and how often it restarted. Changes are a
-- list with the oldest first.
use Rattle.std.specs.Prelude.{ℕ, ◌+◌, ◌-◌, ◌^◌, ◌==◌, min, if◌then◌else◌, List, [], ◌∷◌}
use Rattle.std.specs.Prelude.{Option, Some, None, option_map}
use Rattle.std_types.specs.declared.node.Heartbeat.{Heartbeat}
use Rattle.net_monitor.specs.declared.node_state.NodeState.{NodeState}
use Rattle.net_monitor.specs.Changes.{Change, Down, Restart, Up, Health, Mode, Code}
use Rattle.net_monitor.specs.Online.{gathered}

-- what a node says of itself
pub record Condition : Type 0 where
  pub health : ℕ
  pub mode : ℕ
  pub code : ℕ

abbrev pub condition_of : Heartbeat → Condition
condition_of beat = record { health = beat.health.value; mode = beat.mode.value; code = beat.vendor_specific_status_code }

-- what is told of a node: what it says of itself, while it is online, and its restarts
pub record Told : Type 0 where
  pub condition : Option Condition
  pub restarts : ℕ

abbrev pub with_health : ℕ → Condition → Condition
with_health health c = record { health = health; mode = c.mode; code = c.code }

abbrev pub with_mode : ℕ → Condition → Condition
with_mode mode c = record { health = c.health; mode = mode; code = c.code }

abbrev pub with_code : ℕ → Condition → Condition
with_code code c = record { health = c.health; mode = c.mode; code = code }

-- what is told of a node behind a change of it
abbrev pub told_with : Change → Told → Told
told_with (Down node) t = record { condition = None; restarts = t.restarts }
told_with (Restart node old new) t = record { condition = t.condition; restarts = t.restarts + 1 }
told_with (Up node beat) t = record { condition = Some (condition_of beat); restarts = t.restarts }
told_with (Health node old new) t = record { condition = option_map (with_health new) t.condition; restarts = t.restarts }
told_with (Mode node old new) t = record { condition = option_map (with_mode new) t.condition; restarts = t.restarts }
told_with (Code node old new) t = record { condition = option_map (with_code new) t.condition; restarts = t.restarts }

-- the node of a change
abbrev pub node_of : Change → ℕ
node_of (Down node) = node
node_of (Restart node old new) = node
node_of (Up node beat) = node
node_of (Health node old new) = node
node_of (Mode node old new) = node
node_of (Code node old new) = node

-- what is told of the node s behind changes, by what was told before
abbrev pub told_behind : ℕ → Told → List Change → Told
told_behind s t [] = t
told_behind s t (c ∷ changes) = told_behind s (if node_of c == s then told_with c t else t) changes

-- what changes tell of the node s
abbrev pub told_of : ℕ → List Change → Told
told_of s changes = told_behind s (record { condition = None; restarts = 0 }) changes

-- a node that is online, what it says of itself, and its restarts, or 2^64 - 1 where they are more
pub record OnlineNode : Type 0 where
  pub node : ℕ
  pub condition : Condition
  pub restarts : ℕ

abbrev pub online_node : ℕ → Told → Option OnlineNode
online_node s t = option_map (λ c. record { node = s; condition = c; restarts = min t.restarts (2 ^ 64 - 1) }) t.condition

-- the nodes below 128 that are online by changes, ascending
abbrev pub told_online : List Change → List OnlineNode
told_online changes = gathered (λ s. online_node s (told_of s changes)) 128

-- a state without its uptime and its moment
abbrev pub of_state : NodeState → OnlineNode
of_state x = record { node = x.node; condition = condition_of x.beat; restarts = x.restarts }
