-- What changes among nodes, as time goes on and by heartbeats. Heartbeats are a list with the newest
-- first; `past` is what came before.
use Rattle.std.specs.Prelude.{ℕ, ◌+◌, ◌==◌, nat_lt, not, ◌&&◌, if◌then◌else◌, List, [], ◌∷◌, ◌++◌}
use Rattle.std.specs.Prelude.{Some, None}
use Rattle.std_types.specs.declared.node.Heartbeat.{Heartbeat}
use Rattle.net_monitor.specs.Beats.{Beat, of_node}
use Rattle.net_monitor.specs.Online.{is_online, gathered}

-- a change of a node: it is online no more; it restarted, by the uptimes of its last two heartbeats;
-- it is online now, by a heartbeat; and it says another health, mode or number of its vendor than
-- with the heartbeat before
pub data Change : Type 0 where
  Down : (node : ℕ) → Change
  Restart : (node old new : ℕ) → Change
  Up : (node : ℕ) → (beat : Heartbeat) → Change
  Health : (node old new : ℕ) → Change
  Mode : (node old new : ℕ) → Change
  Code : (node old new : ℕ) → Change

-- the nodes below 128 that are online at one moment, and at another one no more, ascending
abbrev pub gone : ℕ → ℕ → List Beat → List ℕ
gone before m past = gathered (λ s. if is_online before past s && not (is_online m past s) then Some s else None) 128

-- they are online no more
abbrev pub downs : List ℕ → List Change
downs [] = []
downs (node ∷ nodes) = Down node ∷ downs nodes

-- a node restarted where its uptime is less than that of the heartbeat before, if there is one
abbrev pub restart_by : Beat → List Beat → List Change
restart_by e [] = []
restart_by e (b ∷ older) = if nat_lt e.beat.uptime b.beat.uptime then Restart e.node b.beat.uptime e.beat.uptime ∷ [] else []

-- a change, where a number is another one than before
abbrev pub if_other : (ℕ → ℕ → Change) → ℕ → ℕ → List Change
if_other change old new = if old == new then [] else change old new ∷ []

-- what a node says otherwise than with the heartbeat before, if there is one
abbrev pub differences : Beat → List Beat → List Change
differences e [] = []
differences e (b ∷ older) =
    if_other (Health e.node) b.beat.health.value e.beat.health.value
    ++ if_other (Mode e.node) b.beat.mode.value e.beat.mode.value
    ++ if_other (Code e.node) b.beat.vendor_specific_status_code e.beat.vendor_specific_status_code

-- what a heartbeat changes at the moment m: its node may have restarted; if it is online already it
-- may say something else; if it isn't it may be online by this heartbeat
abbrev pub beat_changes : ℕ → Beat → List Beat → List Change
beat_changes m e past =
    restart_by e (of_node e.node past)
    ++ (if is_online m past e.node then differences e (of_node e.node past)
    else (if is_online m (e ∷ past) e.node then Up e.node e.beat ∷ [] else []))

-- how many changes are restarts
abbrev pub restarts_in : List Change → ℕ
restarts_in [] = 0
restarts_in (Restart node old new ∷ changes) = restarts_in changes + 1
restarts_in (other ∷ changes) = restarts_in changes
