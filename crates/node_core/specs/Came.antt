-- What a record came to at a node, and the lines on it.
use Rattle.std.specs.Prelude.{◌≡◌, ◌≢◌, ℕ, ◌-◌, Bool, false, List, [], length, take, Option, Some}
use Rattle.std.specs.Prelude.{None}
use Rattle.std.specs.Option.{option_and_then}
use Rattle.can_id.specs.Identifiers.{key_of}
use Rattle.can_id.specs.declared.ident.Ident.{Ident}
use Rattle.can_id.specs.declared.ident.Ident.TheVariants.{Message, Anonymous, Service}
use Rattle.can_id.specs.declared.key.Kind.TheVariants as kind
use Rattle.tail_frame.specs.Frames.{FrameOf, key_record}
use Rattle.tail_frame.specs.declared.logged.Record.{Record}
use Rattle.tail_frame.specs.declared.tail.Tail.{Tail}
use Rattle.rx_table.specs.Heard.{frame_for}
use Rattle.rx_table.specs.Keys.{KeyedFrame}
use Rattle.rx_table.specs.Places.{table_answer}
use Rattle.rx_table.specs.Ports.{Answer, port_at}
use Rattle.rx_table.specs.Table.{states, port_on, Told}
use Rattle.rx_table.specs.Views.{subscriptions}
use Rattle.rx_table.specs.declared.fed.Met.{Met}
use Rattle.node_core.specs.declared.came.Came.{Came}
use Rattle.node_core.specs.declared.came.Heard.{Heard}
use Rattle.report_lines.specs.declared.line.Line.{Line}
use Rattle.node_core.specs.declared.node.Node.{Node}
use Rattle.node_core.specs.declared.request.Request.{Request}
use Rattle.node_core.specs.Heard.{ports_of, subject_in}
use Rattle.node_core.specs.Sending.{request_with}
use Rattle.node_core.specs.Shapes.{port_schema, shape_extent}
use Rattle.node_core.specs.Stands.{Stands, StandsAt}
use Rattle.node_core.specs.Steps.{got, payload_in, request_on}
use Rattle.node_core.specs.Told.{answer_lines, answer_is_bad}
use Rattle.node_core.specs.Types.{type_at}

-- the frame that a record with this identifier and this tail is
abbrev pub frame_with : Record → Ident → Tail → FrameOf
frame_with rec ident tail = record {
  line = rec.line;
  moment = rec.moment;
  bus = rec.bus;
  ident = ident;
  tail = tail;
  body = take (length rec.bytes - 1) rec.bytes;
}

-- what the node's table tells of a frame
abbrev pub answer_in : Node → FrameOf → Met → Answer
answer_in node f met = table_answer (states shape_extent node.table.ports.items) (key_record f) met

-- the lines on what a frame met
abbrev pub met_lines : Node → FrameOf → Met → List Line
met_lines node f met =
    answer_lines (type_at node.table (key_of f.ident)) f (answer_in node f met)

abbrev pub heard_lines : Node → Record → Option Heard → List Line
heard_lines node rec None = []
heard_lines node rec (Some heard) = met_lines node (frame_with rec heard.ident heard.tail) heard.met

-- whether a frame that was heard ends a transfer whose bytes don't fit their CRC
abbrev pub heard_is_bad : Node → Record → Heard → Bool
heard_is_bad node rec heard =
    answer_is_bad (answer_in node (frame_with rec heard.ident heard.tail) heard.met)

-- what a frame met is what the log says of it
unfoldable pub IsMetAs : Node → Node → FrameOf → Met → Type 0
IsMetAs old new f met =
    (log : List KeyedFrame) → StandsAt old log
    → Told old.plan.timeout (ports_of old.plan) f log (answer_in new f met)

-- if a record's identifier is of a message, its subject has a port
abbrev pub HasPort : Node → Record → Type 0
HasPort node rec =
    (subject : ℕ) → subject_in rec.ident ≡ Some subject
    → port_at kind.Message subject (subscriptions port_schema node.table) ≢ None

-- What was heard is the frame for the node that a record is, on a port if it is a message, and what
-- it met. Where nothing was heard, the record is no such frame, or one on no port.
unfoldable pub IsHeardAs : Node → Node → Record → Option Heard → Type 0
IsHeardAs old new rec None =
    (f : FrameOf) → frame_for old.plan.node rec ≡ Some f
    → port_on (subscriptions port_schema old.table) f ≡ None
IsHeardAs old new rec (Some heard) =
    let f = frame_with rec heard.ident heard.tail in
    (frame_for old.plan.node rec ≡ Some f) × (HasPort old rec × IsMetAs old new f heard.met)

-- the lines on what a record came to
unfoldable pub came_lines : Node → Record → Came → List Line
came_lines node rec came = heard_lines node rec came.heard

-- the request that a frame which was heard ended, where this is the transfer's payload
abbrev pub heard_request : Option Heard → List ℕ → Option Request
heard_request None payload = None
heard_request (Some heard) payload = request_with heard.tail.tid heard.ident payload

-- the request that a record ended, where it gave these lines
abbrev pub came_request : Came → List Line → Option Request
came_request came lines = option_and_then (heard_request came.heard) (payload_in lines)

-- it ended none, whatever lines it gave
abbrev pub EndsNoRequest : Came → Type 0
EndsNoRequest came = (lines : List Line) → came_request came lines ≡ None

-- whether an identifier is of a service's request
abbrev pub is_request : Ident → Bool
is_request (Message priority subject source) = false
is_request (Anonymous priority subject pseudo) = false
is_request (Service priority request service destination source) = request

-- whether what was heard is a frame of one
abbrev pub is_request_heard : Option Heard → Bool
is_request_heard None = false
is_request_heard (Some heard) = is_request heard.ident

-- whether a record may end a request
abbrev pub may_ask : Came → Bool
may_ask came = is_request_heard came.heard

-- it is the one that the log says
abbrev pub TellsRequest : Node → Record → Came → Type 0
TellsRequest node rec came = (past : List Record) → Stands node past
    → came_request came (got node.plan rec past) ≡ request_on node.plan rec (got node.plan rec past)
