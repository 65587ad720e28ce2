-- What `allocate` says of a log: who is given which node-ID, and the messages that tell so. Events
-- and records are lists with the newest first; `past` is what came before.
use Rattle.std.specs.Prelude.{ℕ, ◌+◌, ◌%◌, ◌==◌, if◌then◌else◌, List, [], ◌∷◌, ◌++◌, length, codes}
use Rattle.std.specs.Prelude.{Option, Some, None}
use Rattle.std.specs.Option.{option_and_then}
use Rattle.can_id.specs.Identifiers.{bits, key_of}
use Rattle.can_id.specs.declared.ident.Ident.TheVariants.{Message}
use Rattle.dsdl_types.specs.Laws.{encoding}
use Rattle.dsdl_types.specs.Values.{Val}
use Rattle.frag.specs.Wire.{frames}
use Rattle.log_loop.specs.Voice.{Voice, plain_voice}
use Rattle.pnp_alloc.specs.Allocation.{owners, answer}
use Rattle.pnp_alloc.specs.declared.event.AllocEvent.{AllocEvent}
use Rattle.pnp_alloc.specs.declared.event.AllocEvent.TheVariants.{Seen, Wanted}
use Rattle.pnp_alloc.specs.declared.event.AllocOut.{AllocOut}
use Rattle.pnp_alloc.specs.declared.event.AllocOut.TheVariants.{Noted, Given, Full}
use Rattle.wire_values.specs.Payloads.{payload_value}
use Rattle.std_types.specs.Allocation.{node_id_allocation_of, node_id_allocation_value}
use Rattle.std_types.specs.Ports.{allocation_subject}
use Rattle.std_types.specs.Types.{schema_of}
use Rattle.std_types.specs.declared.allocation.NodeId.{NodeId}
use Rattle.std_types.specs.declared.allocation.NodeIdAllocation.{NodeIdAllocation}
use Rattle.std_types.specs.declared.std_name.StdName.TheVariants.{NodeIdAllocation as allocation}
use Rattle.tail_frame.specs.Frames.{FrameOf, frame_of}
use Rattle.tail_frame.specs.declared.logged.Record.{Record}
use Rattle.node_reach.specs.Buses.{bus_names}
use Rattle.node_reach.specs.Lines.{tx_lines, given_line, full_line, end_line}

-- a node-ID is wanted where none is listed
abbrev pub wanted_by : ℕ → List NodeId → Option AllocEvent
wanted_by uid [] = Some (Wanted uid)
wanted_by uid (id ∷ ids) = None

abbrev pub wanted_in : NodeIdAllocation → Option AllocEvent
wanted_in message = wanted_by message.unique_id_hash message.allocated_node_id

-- what an anonymous message with this payload on the subject of allocation says
abbrev pub wanted : List ℕ → Option AllocEvent
wanted payload = option_and_then (λ (v : Val). wanted_in (node_id_allocation_of v)) (payload_value (schema_of allocation) payload)

-- another node is seen in each frame that it sends, to whomever
abbrev pub seen_by : ℕ → ℕ → Option AllocEvent
seen_by own source = if source == own then None else Some (Seen source)

abbrev pub event_by : ℕ → FrameOf → Option ℕ → Option AllocEvent
event_by own f (Some source) = seen_by own source
event_by own f None = if (key_of f.ident).port == allocation_subject then wanted f.body else None

-- the event of a record, if it is one: a discarded frame is none
abbrev pub event_of : ℕ → Record → Option AllocEvent
event_of own rec = option_and_then (λ (f : FrameOf). event_by own f (key_of f.ident).source) (frame_of rec)

-- events with one more, if there is one
abbrev pub with_event : Option AllocEvent → List AllocEvent → List AllocEvent
with_event None past = past
with_event (Some event) past = event ∷ past

-- the events of records
abbrev pub events : ℕ → List Record → List AllocEvent
events own [] = []
events own (rec ∷ past) = with_event (event_of own rec) (events own past)

-- an answer by which a node-ID is given counts, whether it was given before or not
abbrev pub count_of : AllocOut → ℕ
count_of Noted = 0
count_of (Given node) = 1
count_of Full = 0

-- how often a node-ID was given
abbrev pub answers : ℕ → List AllocEvent → ℕ
answers own [] = 0
answers own (event ∷ past) = answers own past + count_of (answer own event past)

-- the payload of the message by which a unique id is given a node-ID
unfoldable pub answer_payload : ℕ → ℕ → List ℕ
answer_payload uid node =
    encoding (schema_of allocation) (node_id_allocation_value (record { unique_id_hash = uid; allocated_node_id = record { value = node } ∷ [] }))

-- its frames as they are sent by this node as its message of this number: transfer-IDs go round
abbrev pub answer_lines : ℕ → ℕ → ℕ → ℕ → ℕ → List ℕ
answer_lines own moment number uid node =
    tx_lines moment (bits (Message 4 allocation_subject own)) (frames 8 (answer_payload uid node) (number % 32)) bus_names

-- what is said to a unique id that is answered so, behind so many answers
abbrev pub wanted_text : ℕ → ℕ → ℕ → ℕ → AllocOut → List ℕ
wanted_text own moment number uid Noted = []
wanted_text own moment number uid (Given node) = given_line moment node uid ++ answer_lines own moment number uid node
wanted_text own moment number uid Full = full_line moment uid

-- what is said on an event
abbrev pub event_text : ℕ → ℕ → Option AllocEvent → List AllocEvent → List ℕ
event_text own moment None past = []
event_text own moment (Some (Seen node)) past = []
event_text own moment (Some (Wanted uid)) past = wanted_text own moment (answers own past) uid (answer own (Wanted uid) past)

abbrev pub step_text : ℕ → Record → List Record → List ℕ
step_text own rec past = event_text own rec.moment (event_of own rec) (events own past)

-- the last line
abbrev pub last_text : ℕ → List Record → List ℕ
last_text own past = end_line (length past) (codes "owners") (length (owners own (events own past)))

-- what an allocator with this node-ID of its own says over a log
abbrev pub allocate_voice : ℕ → Voice Record
allocate_voice own = plain_voice (step_text own) (last_text own)
