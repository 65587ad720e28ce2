-- The lines of changes.
use Rattle.std.specs.Prelude.{ℕ, List, [], ◌∷◌, ◌++◌, codes, decimal}
use Rattle.line_text.specs.Text.{moment_text, line_of}
use Rattle.std_types.specs.declared.node.Heartbeat.{Heartbeat}
use Rattle.net_monitor.specs.Changes.{Change, Down, Restart, Up, Health, Mode, Code}

-- a node is online no more
abbrev pub down_line : ℕ → ℕ → List ℕ
down_line moment node = line_of (moment_text moment ∷ decimal node ∷ codes "down" ∷ [])

-- what a node says has changed
abbrev pub numbers_line : ℕ → ℕ → List ℕ → ℕ → ℕ → List ℕ
numbers_line moment node word old new = line_of (moment_text moment ∷ decimal node ∷ word ∷ decimal old ∷ decimal new ∷ [])

-- a node is online, and says this
abbrev pub up_line : ℕ → ℕ → Heartbeat → List ℕ
up_line moment node beat = line_of (
    moment_text moment ∷ decimal node ∷ codes "up" ∷ codes "uptime" ∷ decimal beat.uptime
    ∷ codes "health" ∷ decimal beat.health.value ∷ codes "mode" ∷ decimal beat.mode.value
    ∷ codes "code" ∷ decimal beat.vendor_specific_status_code ∷ [])

-- the line of a change that a record of this moment shows
abbrev pub change_line : ℕ → Change → List ℕ
change_line moment (Down node) = down_line moment node
change_line moment (Restart node old new) = numbers_line moment node (codes "restart") old new
change_line moment (Up node beat) = up_line moment node beat
change_line moment (Health node old new) = numbers_line moment node (codes "health") old new
change_line moment (Mode node old new) = numbers_line moment node (codes "mode") old new
change_line moment (Code node old new) = numbers_line moment node (codes "code") old new

-- the lines of changes, in their order
abbrev pub change_lines : ℕ → List Change → List ℕ
change_lines moment [] = []
change_lines moment (change ∷ changes) = change_line moment change ++ change_lines moment changes

-- the last line: how many records came, how many nodes were ever heard, and how many restarts told
abbrev pub nodes_end : ℕ → ℕ → ℕ → List ℕ
nodes_end records nodes restarts = line_of (
    codes "end" ∷ codes "records" ∷ decimal records ∷ codes "nodes" ∷ decimal nodes
    ∷ codes "restarts" ∷ decimal restarts ∷ [])
