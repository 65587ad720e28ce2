-- The nodes that sent frames. Frames are a list with the newest first; `past` is what came before.
use Rattle.std.specs.Prelude.{◌≡◌, ◌<◌, ℕ, zero, suc, ◌+◌, Bool, false, ◌||◌, ◌==◌, List, [], ◌∷◌}
use Rattle.std.specs.Prelude.{Option, Some, None, slice_index_or}
use Rattle.can_id.specs.Identifiers.{key_of}
use Rattle.tail_frame.specs.Frames.{FrameOf}
use Rattle.bus_survey.specs.Starts.{one_if}

-- whether a sender is this node
abbrev pub is_node : Option ℕ → ℕ → Bool
is_node None node = false
is_node (Some source) node = source == node

-- whether a node sent one of these frames
abbrev pub is_source : List FrameOf → ℕ → Bool
is_source [] node = false
is_source (f ∷ past) node = is_node (key_of f.ident).source node || is_source past node

-- how many numbers below n pass a test
unfoldable pub count_below : (ℕ → Bool) → ℕ → ℕ
count_below test zero = 0
count_below test (suc n) = count_below test n + one_if (test n)

-- how many nodes sent these frames
abbrev pub nodes : List FrameOf → ℕ
nodes past = count_below (is_source past) 128

-- these truths say of each node below 128 whether it sent one of these frames
abbrev pub AreSources : List FrameOf → List Bool → Type 0
AreSources past heard = (node : ℕ) → node < 128 → slice_index_or heard node false ≡ is_source past node
