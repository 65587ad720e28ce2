-- Who was heard, and who is online.
use Rattle.std.specs.Prelude.{ℕ, zero, suc, ◌+◌, ◌==◌, nat_le, Bool, false, ◌&&◌, ◌||◌}
use Rattle.std.specs.Prelude.{if◌then◌else◌, List, [], ◌∷◌, ◌++◌, Option, Some, None}
use Rattle.net_monitor.specs.declared.node_state.NodeState.{NodeState}
use Rattle.net_monitor.specs.Beats.{Beat, state_of}

-- whether the node s has a heartbeat
abbrev pub is_heard : List Beat → ℕ → Bool
is_heard [] s = false
is_heard (e ∷ past) s = (e.node == s) || is_heard past s

-- whether the node s has a heartbeat at most 3 seconds before the moment m, or behind it
abbrev pub is_online : ℕ → List Beat → ℕ → Bool
is_online m [] s = false
is_online m (e ∷ past) s = ((e.node == s) && nat_le m (e.moment + 3000000)) || is_online m past s

-- what is there, as a list
abbrev pub listed : {X : Type 0} → Option X → List X
listed None = []
listed (Some x) = x ∷ []

-- what is there of the numbers below k, ascending
unfoldable pub gathered : {X : Type 0} → (ℕ → Option X) → ℕ → List X
gathered f zero = []
gathered f (suc k) = gathered f k ++ listed (f k)

-- the nodes below 128 that were heard, ascending
abbrev pub heard : List Beat → List ℕ
heard past = gathered (λ s. if is_heard past s then Some s else None) 128

-- the nodes below 128 that are online at the moment m, ascending
abbrev pub online : ℕ → List Beat → List NodeState
online m past = gathered (λ s. if is_online m past s then state_of s past else None) 128
