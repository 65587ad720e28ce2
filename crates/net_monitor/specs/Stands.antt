-- The heartbeats that a `Monitor` stands for.
use Rattle.std.specs.Prelude.{◌≡◌, ℕ, ◌≤◌, List, [], ◌∷◌, None, ⊤, slice_index_or}
use Rattle.net_monitor.specs.declared.monitor.Monitor.{Monitor}
use Rattle.net_monitor.specs.Beats.{Beat, state_of}

-- no heartbeat is after this moment
abbrev pub AllUpTo : ℕ → List Beat → Type 0
AllUpTo t [] = ⊤
AllUpTo t (e ∷ past) = (e.moment ≤ t) × AllUpTo t past

-- moments don't fall
abbrev pub AreInOrder : List Beat → Type 0
AreInOrder [] = ⊤
AreInOrder (e ∷ past) = AllUpTo e.moment past × AreInOrder past

-- what a `Monitor` keeps is what these heartbeats give of each node
pub record Stands (past : List Beat) (monitor : Monitor) : Type 0 where
  pub kept : (s : ℕ) → s ≤ 127 → slice_index_or monitor.nodes s None ≡ state_of s past
  pub order : AreInOrder past
  pub latest : AllUpTo monitor.latest past
