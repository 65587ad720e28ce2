-- The flows of frames, and the order in which they are told. Frames are a list with the newest
-- first; `past` is what came before.
use Rattle.std.specs.Prelude.{ℕ, Bool, if◌then◌else◌, List, [], ◌∷◌, Option, Some, None}
use Rattle.std.specs.BTreeSet.{insert_key}
use Rattle.std.specs.Option.{option_cmp}
use Rattle.std.specs.Ordering.{nat_cmp, ordering_then, is_eq}
use Rattle.std.specs.declared.cmp.Ordering.{Ordering}
use Rattle.std.specs.declared.cmp.Ordering.TheVariants.{Less, Equal, Greater}
use Rattle.can_id.specs.Identifiers.{key_of, destination_of}
use Rattle.can_id.specs.declared.key.Kind.{Kind}
use Rattle.can_id.specs.declared.key.Kind.TheVariants as of
use Rattle.tail_frame.specs.Frames.{FrameOf, frame_of}
use Rattle.tail_frame.specs.declared.logged.Record.{Record}
use Rattle.bus_survey.specs.declared.flow.Flow.{Flow}
use Rattle.bus_survey.specs.declared.flow.FlowKind.{FlowKind}
use Rattle.bus_survey.specs.declared.flow.FlowKind.TheVariants.{Message, Request, Response}
use Rattle.bus_survey.specs.declared.flow.Sender.{Sender}
use Rattle.bus_survey.specs.declared.flow.Sender.TheVariants.{Node, Anonymous}

-- a frame in front of others, where a record is one
abbrev pub with_frame : Option FrameOf → List FrameOf → List FrameOf
with_frame None past = past
with_frame (Some f) past = f ∷ past

-- the frames that records are; a record that is discarded is none
abbrev pub frames : List Record → List FrameOf
frames [] = []
frames (rec ∷ past) = with_frame (frame_of rec) (frames past)

abbrev pub kind_of : Kind → FlowKind
kind_of of.Message = Message
kind_of of.Request = Request
kind_of of.Response = Response

abbrev pub sender_of : Option ℕ → Sender
sender_of None = Anonymous
sender_of (Some node) = Node node

-- the flow of a frame
abbrev pub flow_of : FrameOf → Flow
flow_of f = let key = key_of f.ident in record {
  kind = kind_of key.kind;
  port = key.port;
  sender = sender_of key.source;
  destination = destination_of f.ident;
  bus = f.bus;
}

-- messages come before requests, and these before responses
abbrev pub kind_number : FlowKind → ℕ
kind_number Message = 0
kind_number Request = 1
kind_number Response = 2

-- senders come by their node-IDs, and last those that have none
abbrev pub sender_order : Sender → Sender → Ordering
sender_order (Node a) (Node b) = nat_cmp a b
sender_order (Node a) Anonymous = Less
sender_order Anonymous (Node b) = Greater
sender_order Anonymous Anonymous = Equal

-- flows come by their kinds, then by their ports, their senders, their receivers, and last by their
-- buses
abbrev pub flow_order : Flow → Flow → Ordering
flow_order a b =
    ordering_then (nat_cmp (kind_number a.kind) (kind_number b.kind))
    (ordering_then (nat_cmp a.port b.port)
    (ordering_then (sender_order a.sender b.sender)
    (ordering_then (option_cmp nat_cmp a.destination b.destination) (nat_cmp a.bus b.bus))))

-- whether a frame is one of a flow
abbrev pub is_of : Flow → FrameOf → Bool
is_of flow f = is_eq (flow_order (flow_of f) flow)

-- the frames of a flow
abbrev pub of_flow : Flow → List FrameOf → List FrameOf
of_flow flow [] = []
of_flow flow (f ∷ past) = if is_of flow f then f ∷ of_flow flow past else of_flow flow past

-- the flows that frames have, each once, in their order
abbrev pub flows : List FrameOf → List Flow
flows [] = []
flows (f ∷ past) = insert_key flow_order (flows past) (flow_of f)
