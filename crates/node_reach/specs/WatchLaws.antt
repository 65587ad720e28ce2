-- The laws of what `nodes` says, over every list of records.
use Rattle.std.specs.Prelude.{◌≡◌, ◌<◌, ℕ, true, List, [], ◌∷◌, map, ⊤}
use Rattle.can_id.specs.declared.ident.Ident.TheVariants.{Message}
use Rattle.net_monitor.specs.Beats.{of_node, restarts}
use Rattle.net_monitor.specs.Online.{online}
use Rattle.net_monitor.specs.Told.{told_of, told_online, of_state}
use Rattle.rx_table.specs.Heard.{is_for}
use Rattle.tail_frame.specs.declared.logged.Record.{Record}
use Rattle.node_reach.specs.Ears.{AllUpTo}
use Rattle.node_reach.specs.Monitored.{beats, last_moment}
use Rattle.node_reach.specs.Watched.{nobody, clock, changes}

-- moments don't fall
abbrev pub AreInOrder : List Record → Type 0
AreInOrder [] = ⊤
AreInOrder (rec ∷ past) = AllUpTo rec.moment past × AreInOrder past

-- past is any list of records
pub record WatchLaws : Type 0 where
  -- by all that changed so far, exactly those are online, with the same health, mode, number of their
  -- vendor, and restarts, who are so by what `monitor` takes as online
  pub online_are : (past : List Record) → told_online (changes past) ≡ map of_state (online (clock past) (beats nobody past))
  -- each node restarted as often as was told, whether it is online or not
  pub restarts_are : (past : List Record) (s : ℕ) → s < 128
      → (told_of s (changes past)).restarts ≡ restarts (of_node s (beats nobody past))
  -- in a log the moment is that of the last record, as `monitor` takes it
  pub clock_is : (past : List Record) → AreInOrder past → clock past ≡ last_moment past
  -- no node's messages are left out
  pub none_left_out : (priority subject source : ℕ) → source < 128 → is_for nobody (Message priority subject source) ≡ true
