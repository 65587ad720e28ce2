-- The log that a node stands for.
use Rattle.std.specs.Prelude.{◌≡◌, ◌≤◌, ◌⊎◌, ℕ, Bool, List, ◌∷◌, Some}
use Rattle.tail_frame.specs.Frames.{FrameOf}
use Rattle.tail_frame.specs.declared.logged.Record.{Record}
use Rattle.rx_table.specs.Keys.{KeyedFrame}
use Rattle.rx_table.specs.Ports.{ports_of as ports_in}
use Rattle.rx_table.specs.Table.{states, Opens, StandsFor, logged, port_on}
use Rattle.node_core.specs.declared.node.Node.{Node}
use Rattle.node_plan.specs.Bound.{bound_of}
use Rattle.node_plan.specs.Ports.{ports}
use Rattle.rx_table.specs.Heard.{frame_for, frames}
use Rattle.node_core.specs.Heard.{ports_of}
use Rattle.node_core.specs.Shapes.{shape_extent}
use Rattle.node_core.specs.Steps.{got, is_bad_at, on_port, bad_on_port, held_at}
use Rattle.node_core.specs.Types.{HasTypes}
use Rattle.report_lines.specs.declared.line.Line.{Line}

-- its sessions are those of its plan's ports after these frames, the newest first, and its ports
-- have the plan's types
pub record StandsAt (node : Node) (log : List KeyedFrame) : Type 0 where
  pub timeout : node.table.timeout ≡ node.plan.timeout
  pub ports_are : ports_in (states shape_extent node.table.ports.items) ≡ ports_of node.plan
  pub types : HasTypes (ports node.plan) node.table
  pub sessions : StandsFor node.plan.timeout log (states shape_extent node.table.ports.items)

-- and after these records
abbrev pub Stands : Node → List Record → Type 0
Stands node past = StandsAt node (frames node.plan.node past)

-- a node that takes a record stands for it too
abbrev pub Takes : Record → Node → Node → Type 0
Takes rec old new = (past : List Record) → Stands old past → Stands new (rec ∷ past)

-- it stands for the records that it stood for
abbrev pub StandsAsBefore : Node → Node → Type 0
StandsAsBefore old new = (past : List Record) → Stands old past → Stands new past

-- it stands for the records that it stood for, or for this one too: so its ports, and the bound on
-- the bytes of its buffers, are as before
abbrev pub TakesOrNot : Record → Node → Node → Type 0
TakesOrNot rec old new = (past : List Record) → Stands old past → Stands new past ⊎ Stands new (rec ∷ past)

-- these are the lines that the next record gives
abbrev pub Gives : Node → Record → List Line → Type 0
Gives node rec lines = (past : List Record) → Stands node past → lines ≡ got node.plan rec past

-- this is whether the next record ends a transfer whose bytes don't fit their CRC
abbrev pub TellsBadCrc : Node → Record → Bool → Type 0
TellsBadCrc node rec is_bad = (past : List Record) → Stands node past → is_bad ≡ is_bad_at node.plan rec past

-- the buffers of its open sessions have so many bytes
abbrev pub Holds : Node → ℕ → Type 0
Holds node bytes = (past : List Record) → Stands node past → bytes ≡ held_at node.plan past

-- so many bytes are no more than the plan allows
abbrev pub IsWithinBound : Node → ℕ → Type 0
IsWithinBound node bytes = (past : List Record) → Stands node past → bytes ≤ bound_of node.plan

-- the same of a frame that is for the node: it stands for the frames with it
abbrev pub TakesFrame : FrameOf → Node → Node → Type 0
TakesFrame f old new = (log : List KeyedFrame) → StandsAt old log → StandsAt new (logged f log)

-- it stands for the frames that it stood for
abbrev pub KeepsSessions : Node → Node → Type 0
KeepsSessions old new = (log : List KeyedFrame) → StandsAt old log → StandsAt new log

-- the frame opens a session, on a port of the plan
abbrev pub FrameOpens : Node → FrameOf → Type 0
FrameOpens node f = (log : List KeyedFrame) → StandsAt node log → Opens (ports_of node.plan) f log

-- a record is such a frame, for the node
abbrev pub OpensSession : Node → Record → Type 0
OpensSession node rec =
    (f : FrameOf) × ((frame_for node.plan.node rec ≡ Some f) × FrameOpens node f)

-- these are the lines that the frame gives
abbrev pub FrameGives : Node → FrameOf → List Line → Type 0
FrameGives node f lines =
    (log : List KeyedFrame) → StandsAt node log
    → lines ≡ on_port node.plan f log (port_on (ports_of node.plan) f)

-- this is whether the frame ends a transfer whose bytes don't fit their CRC
abbrev pub FrameTellsBadCrc : Node → FrameOf → Bool → Type 0
FrameTellsBadCrc node f is_bad =
    (log : List KeyedFrame) → StandsAt node log
    → is_bad ≡ bad_on_port node.plan.timeout f log (port_on (ports_of node.plan) f)
