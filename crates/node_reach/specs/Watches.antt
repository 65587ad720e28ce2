-- What is kept of the changes among nodes.
use Rattle.std.specs.Prelude.{◌≡◌, ◌≤◌, ℕ, ◌+◌, ◌-◌, ◌^◌, min, if◌then◌else◌, is_some, List, [], ◌++◌}
use Rattle.std.specs.Prelude.{length, Option, Some, None}
use Rattle.net_monitor.specs.Beats.{Beat}
use Rattle.net_monitor.specs.Changes.{Change, gone, downs, restarts_in}
use Rattle.net_monitor.specs.Renewals.{IsCalm, renewal_changes, uptime_before}
use Rattle.net_monitor.specs.declared.renewal.Renewal.{Renewal}
use Rattle.tail_frame.specs.declared.logged.Record.{Record}
use Rattle.node_reach.specs.ChangeLines.{change_lines}
use Rattle.node_reach.specs.Monitored.{beats}
use Rattle.node_reach.specs.Monitors.{Monitors}
use Rattle.node_reach.specs.Watched.{nobody, clock, changes}
use Rattle.node_reach.specs.declared.watching.Watching.{Watching}

-- what changes by what a heartbeat made of its node, if there is one
abbrev pub changes_of : ℕ → Option Renewal → List Change
changes_of m None = []
changes_of m (Some r) = renewal_changes m r

-- a moment, or that until which a node stays online, if it is an earlier one
abbrev pub calm_with : ℕ → Option Renewal → ℕ
calm_with calm None = calm
calm_with calm (Some r) = min calm (min (r.state.last + 3000000) (2 ^ 64 - 1))

-- a count, with one more where a node restarted
abbrev pub count_with : ℕ → Option Renewal → ℕ
count_with n None = n
count_with n (Some r) = if is_some (uptime_before r.before r.state.beat.uptime) then min (n + 1) (2 ^ 64 - 1) else n

-- what was gathered behind a text is the lines of those who go offline between two moments, by
-- heartbeats that are known; and until when nobody else goes is known too
pub record TellsGone (before m calm : ℕ) (past : List Beat) (old new : List ℕ) : Type 0 where
  pub is_calm : IsCalm m calm past
  pub text : new ≡ old ++ change_lines m (downs (gone before m past))

-- these records were heard, and what changed by them was told
pub record Watches (now : Watching) (past : List Record) : Type 0 where
  pub monitors : Monitors nobody now.monitoring past
  pub clock_is : now.monitoring.ear.latest ≡ clock past
  pub is_calm : IsCalm (clock past) now.calm (beats nobody past)
  pub restarts_are : now.restarts ≡ restarts_in (changes past)
  pub few : restarts_in (changes past) ≤ length past
