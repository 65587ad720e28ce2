-- A message that a node heard on the quick way, and the lines on it.
use Rattle.std.specs.Prelude.{◌≡◌, ℕ, Bool, List, Option, Some, None, ⊤}
use Rattle.can_id.specs.Identifiers.{key_of}
use Rattle.can_id.specs.declared.key.Kind.TheVariants.{Message}
use Rattle.tail_frame.specs.Frames.{FrameOf, seen}
use Rattle.tail_frame.specs.declared.logged.Record.{Record}
use Rattle.rx_table.specs.Heard.{frame_for}
use Rattle.rx_table.specs.Views.{place_in, subscriptions}
use Rattle.rx_table.specs.declared.fed.Met.{Met}
use Rattle.rx_table.specs.declared.fed.Met.TheVariants.{Port}
use Rattle.rx_table.specs.declared.fed.PortMet.TheVariants.{Session}
use Rattle.node_core.specs.Came.{answer_in, met_lines}
use Rattle.node_core.specs.Heard.{IsElsewhere, subject_in}
use Rattle.node_core.specs.Shapes.{port_schema}
use Rattle.node_core.specs.Steps.{request_on}
use Rattle.node_core.specs.Told.{answer_is_bad}
use Rattle.report_lines.specs.declared.line.Line.{Line}
use Rattle.report_lines.specs.declared.line_ref.LineRef.{LineRef}
use Rattle.report_lines.specs.declared.line_ref.LineRef.TheVariants.{Rx, NoSession, Tx, Full}
use Rattle.node_core.specs.declared.node.Node.{Node}
use Rattle.node_core.specs.declared.quick.Lead.{Lead}
use Rattle.node_core.specs.declared.quick.Lead.TheVariants.{Service, Nowhere, AtPort}
use Rattle.node_core.specs.declared.quick.Quick.{Quick}

-- what it came to in the table
abbrev pub quick_met : Quick → Met
quick_met q = Port q.place (Session q.index q.step)

-- the lines on it
abbrev pub quick_lines : Node → Quick → List Line
quick_lines node q = met_lines node (seen q.frame) (quick_met q)

-- whether it ended a transfer whose bytes don't fit their CRC
abbrev pub quick_is_bad : Node → Quick → Bool
quick_is_bad node q = answer_is_bad (answer_in node (seen q.frame) (quick_met q))

-- its port is at the place that it says
abbrev pub IsPlaced : Node → Quick → Type 0
IsPlaced node q = let key = key_of q.frame.ident in place_in key.kind key.port node.table ≡ Some q.place

-- a frame is of a message, on the port at this place
pub record IsOnPort (node : Node) (f : FrameOf) (place : ℕ) : Type 0 where
  pub kind : (key_of f.ident).kind ≡ Message
  pub at : let key = key_of f.ident in place_in key.kind key.port node.table ≡ Some place

-- if a record is a frame, it is one of a message on the port at this place
abbrev pub LeadsTo : Node → Record → ℕ → Type 0
LeadsTo node rec place = (n : ℕ) (f : FrameOf) → frame_for n rec ≡ Some f → IsOnPort node f place

-- where a subject leads, by the place of its port
abbrev pub lead_at : Option ℕ → Lead
lead_at None = Nowhere
lead_at (Some place) = AtPort place

-- where an identifier leads, by the subject that it says; a service's says none
abbrev pub lead_by : Node → Option ℕ → Lead
lead_by node None = Service
lead_by node (Some subject) = lead_at (place_in Message subject node.table)

-- where that of a record leads
abbrev pub lead_of : Node → Record → Lead
lead_of node rec = lead_by node (subject_in rec.ident)

-- an identifier leads there where its record can go nowhere else; of a service nothing is said
abbrev pub IsLead : Node → Record → Lead → Type 0
IsLead node rec Service = ⊤
IsLead node rec Nowhere = IsElsewhere (subscriptions port_schema node.table) rec
IsLead node rec (AtPort place) = LeadsTo node rec place

-- a record ends no request, whatever lines it gave
abbrev pub AsksNothing : Node → Record → Type 0
AsksNothing node rec = (lines : List Line) → request_on node.plan rec lines ≡ None

-- a line on a transfer is of a port without a type
abbrev pub IsUntyped : LineRef → Type 0
IsUntyped (Rx rx) = rx.port_type ≡ None
IsUntyped (NoSession refused) = ⊤
IsUntyped (Tx tx) = ⊤
IsUntyped (Full full) = ⊤
