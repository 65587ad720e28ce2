-- What is kept of each node, and who is heard and online by it.
use Rattle.std.specs.Prelude.{ℕ, ◌+◌, ◌-◌, ◌^◌, min, nat_le, nat_lt, if◌then◌else◌, List, Option}
use Rattle.std.specs.Prelude.{Some, None, slice_index_or}
use Rattle.net_monitor.specs.declared.node_state.NodeState.{NodeState}

-- the number of restarts once a heartbeat with this uptime follows
abbrev pub restarts_after : NodeState → ℕ → ℕ
restarts_after state uptime = if nat_lt uptime state.beat.uptime then min (state.restarts + 1) (2 ^ 64 - 1) else state.restarts

-- a state, where its last heartbeat is at most 3 seconds before the moment m, or behind it
abbrev pub if_online : ℕ → Option NodeState → Option NodeState
if_online m None = None
if_online m (Some state) = if nat_le m (state.last + 3000000) then Some state else None

abbrev pub kept_online : ℕ → List (Option NodeState) → ℕ → Option NodeState
kept_online m nodes s = if_online m (slice_index_or nodes s None)

-- a number, where there is a state
abbrev pub if_heard : ℕ → Option NodeState → Option ℕ
if_heard s None = None
if_heard s (Some state) = Some s

abbrev pub kept_heard : List (Option NodeState) → ℕ → Option ℕ
kept_heard nodes s = if_heard s (slice_index_or nodes s None)
