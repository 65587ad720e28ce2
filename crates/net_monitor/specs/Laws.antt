-- The laws of who is heard and online, over every list of heartbeats.
use Rattle.std.specs.Prelude.{◌≡◌, ℕ, ◌+◌, ◌<◌, ◌≤◌, ◌↔◌, List, [], ◌∷◌, ⊤}
use Rattle.std.specs.List.{Contains}
use Rattle.net_monitor.specs.declared.node_state.NodeState.{NodeState}
use Rattle.net_monitor.specs.Beats.{Beat, of_node, capped_restarts}
use Rattle.net_monitor.specs.Online.{heard, online}

-- some heartbeat is one of the node s
pub record IsHeard (past : List Beat) (s : ℕ) : Type 0 where
  pub b : Beat
  pub there : Contains past b
  pub of_it : b.node ≡ s

-- some heartbeat is one of the node s, at most 3 seconds before the moment m, or behind it
pub record IsOnline (m : ℕ) (past : List Beat) (s : ℕ) : Type 0 where
  pub b : Beat
  pub there : Contains past b
  pub of_it : b.node ≡ s
  pub recent : m ≤ b.moment + 3000000

-- a state says what its node's last heartbeat said and when that was, and has the restarts of all
-- its heartbeats
pub record Tells (past : List Beat) (x : NodeState) : Type 0 where
  pub last : Beat
  pub older : List Beat
  pub parts : of_node x.node past ≡ last ∷ older
  pub beat : x.beat ≡ last.beat
  pub moment : x.last ≡ last.moment
  pub restarts : x.restarts ≡ capped_restarts (last ∷ older)

-- each of these numbers is greater than this one
abbrev pub AllAbove : ℕ → List ℕ → Type 0
AllAbove n [] = ⊤
AllAbove n (x ∷ xs) = (n < x) × AllAbove n xs

-- these numbers ascend
abbrev pub Ascend : List ℕ → Type 0
Ascend [] = ⊤
Ascend (x ∷ xs) = AllAbove x xs × Ascend xs

-- the nodes of these states
abbrev pub nodes_of : List NodeState → List ℕ
nodes_of [] = []
nodes_of (x ∷ xs) = x.node ∷ nodes_of xs

-- past is any list of heartbeats, m a moment
pub record MonitorLaws : Type 0 where
  -- heard are those nodes below 128 with a heartbeat, each once and ascending
  pub heard_are : (past : List Beat) (s : ℕ)
      → Contains (heard past) s ↔ ((s < 128) × IsHeard past s)
  pub heard_ascend : (past : List Beat) → Ascend (heard past)
  -- online are those nodes below 128 with a heartbeat at most 3 seconds before, or behind, each
  -- once and ascending
  pub online_are : (m : ℕ) (past : List Beat) (x : NodeState)
      → Contains (online m past) x ↔ ((x.node < 128) × IsOnline m past x.node × Tells past x)
  pub online_ascend : (m : ℕ) (past : List Beat) → Ascend (nodes_of (online m past))
