-- What is kept of the changes of nodes, by how they are and were.
use Rattle.std.specs.Prelude.{◌≡◌, ℕ, ◌+◌, ◌-◌, ◌<◌, ◌^◌, min, nat_le, nat_lt, not, ◌&&◌, true}
use Rattle.std.specs.Prelude.{if◌then◌else◌, List, [], ◌∷◌, ◌++◌, Option, Some, None, slice_index_or}
use Rattle.net_monitor.specs.declared.node_state.NodeState.{NodeState}
use Rattle.net_monitor.specs.declared.renewal.Renewal.{Renewal}
use Rattle.net_monitor.specs.Beats.{Beat, of_node, capped_restarts, state_of}
use Rattle.net_monitor.specs.Changes.{Change, Restart, Up, Health, Mode, Code, if_other}
use Rattle.net_monitor.specs.Online.{is_online}

-- how its node is by a heartbeat
abbrev pub state_with : Beat → List Beat → NodeState
state_with e past = record { node = e.node; beat = e.beat; last = e.moment; restarts = capped_restarts (e ∷ of_node e.node past) }

-- what a heartbeat makes of its node
abbrev pub renewal_by : Beat → List Beat → Renewal
renewal_by e past = record { before = state_of e.node past; state = state_with e past }

-- the uptime before a restart, if it is one
abbrev pub uptime_before : Option NodeState → ℕ → Option ℕ
uptime_before None uptime = None
uptime_before (Some before) uptime = if nat_lt uptime before.beat.uptime then Some before.beat.uptime else None

abbrev pub restart_from : NodeState → Option ℕ → List Change
restart_from now None = []
restart_from now (Some old) = Restart now.node old now.beat.uptime ∷ []

-- what a node says otherwise than before
abbrev pub said_since : NodeState → NodeState → List Change
said_since before now =
    if_other (Health now.node) before.beat.health.value now.beat.health.value
    ++ if_other (Mode now.node) before.beat.mode.value now.beat.mode.value
    ++ if_other (Code now.node) before.beat.vendor_specific_status_code now.beat.vendor_specific_status_code

-- the node is online at the moment m, if its heartbeat is recent
abbrev pub up_at : ℕ → NodeState → List Change
up_at m now = if nat_le m (now.last + 3000000) then Up now.node now.beat ∷ [] else []

abbrev pub said_at : ℕ → Option NodeState → NodeState → List Change
said_at m None now = up_at m now
said_at m (Some before) now = if nat_le m (before.last + 3000000) then said_since before now else up_at m now

-- what changes at the moment m with a node that is so now
abbrev pub renewal_changes : ℕ → Renewal → List Change
renewal_changes m r = restart_from r.state (uptime_before r.before r.state.beat.uptime) ++ said_at m r.before r.state

-- a number, where there is a state that is online at one moment, and at another one no more
abbrev pub if_gone : ℕ → ℕ → ℕ → Option NodeState → Option ℕ
if_gone before m s None = None
if_gone before m s (Some state) = if nat_le before (state.last + 3000000) && not (nat_le m (state.last + 3000000)) then Some s else None

abbrev pub kept_gone : ℕ → ℕ → List (Option NodeState) → ℕ → Option ℕ
kept_gone before m nodes s = if_gone before m s (slice_index_or nodes s None)

-- until when a state is online, where it is so at the moment m
abbrev pub until : ℕ → Option NodeState → ℕ
until m None = 2 ^ 64 - 1
until m (Some state) = if nat_le m (state.last + 3000000) then min (state.last + 3000000) (2 ^ 64 - 1) else 2 ^ 64 - 1

abbrev pub kept_until : ℕ → List (Option NodeState) → ℕ → ℕ
kept_until m nodes s = until m (slice_index_or nodes s None)

-- who is online at the moment m is so until another one, without a further heartbeat
abbrev pub IsCalm : ℕ → ℕ → List Beat → Type 0
IsCalm m calm past = (s : ℕ) → s < 128 → is_online m past s ≡ true → is_online calm past s ≡ true
