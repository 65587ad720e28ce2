-- The transfers that a node receives of a log, without a plan. Records are a list with the newest
-- first; `past` is what came before.
use Rattle.std.specs.Prelude.{ℕ, ◌<◌, ◌≤◌, if◌then◌else◌, List, take, Option, Some, None, ⊤}
use Rattle.dsdl_types.specs.Schemas.{Sch}
use Rattle.can_id.specs.declared.key.Kind.{Kind}
use Rattle.can_id.specs.declared.key.Kind.TheVariants.{Message}
use Rattle.rx_session.specs.Extents.{bytes_of}
use Rattle.rx_table.specs.Heard.{frames, frame_for}
use Rattle.rx_table.specs.Keys.{SessionKey, KeyedFrame, history}
use Rattle.rx_table.specs.Ports.{Port, is_admitted}
use Rattle.rx_table.specs.Received.{Delivery}
use Rattle.rx_table.specs.Steps.{delivery_at}
use Rattle.rx_table.specs.Table.{keyed, port_on}
use Rattle.tail_frame.specs.Frames.{FrameOf}
use Rattle.tail_frame.specs.declared.logged.Record.{Record}
use Rattle.transfer_crc.specs.Crc.{crc_of}

-- a transfer of a source: its key, its transfer-ID, the moment of its first frame, and its payload,
-- cut to the extent
pub record Transfer : Type 0 where
  pub key : SessionKey
  pub tid : ℕ
  pub moment : ℕ
  pub payload : List ℕ

-- it began no later than at this moment, and its transfer-ID is one
pub record HasBegun (moment : ℕ) (t : Transfer) : Type 0 where
  pub tid : t.tid < 32
  pub early : t.moment ≤ moment

-- the same, if there is a transfer
abbrev pub HasBegunBy : ℕ → Option Transfer → Type 0
HasBegunBy moment None = ⊤
HasBegunBy moment (Some t) = HasBegun moment t

-- what a node listens with: its own node-ID, the silence after which another bus takes over, and
-- its ports
pub record Ears : Type 0 where
  pub own : ℕ
  pub timeout : ℕ
  pub ports : List Port

-- a port for transfers of a type, with 128 sources
abbrev pub port_for : Kind → ℕ → Sch → Port
port_for kind number type = record { kind = kind; port = number; sources = 128; extent = bytes_of type }

-- a port of a subject
abbrev pub subject : ℕ → Sch → Port
subject number type = port_for Message number type

abbrev pub of_delivery : ℕ → SessionKey → Option Delivery → Option Transfer
of_delivery extent key None = None
of_delivery extent key (Some d) = Some (record { key = key; tid = d.first.tid; moment = d.first.moment; payload = take extent d.content })

-- what ends at a frame on a port, where its source has a session; an anonymous frame has no source
abbrev pub on_port : ℕ → List KeyedFrame → Option Port → Option KeyedFrame → Option Transfer
on_port timeout log None k = None
on_port timeout log (Some p) None = None
on_port timeout log (Some p) (Some k) =
    if is_admitted p k log then of_delivery p.extent k.key (delivery_at crc_of timeout k.rec (history k.key log)) else None

abbrev pub of_frame : Ears → List KeyedFrame → Option FrameOf → Option Transfer
of_frame ears log None = None
of_frame ears log (Some f) = on_port ears.timeout log (port_on ears.ports f) (keyed f)

-- the transfer that ends at a record, if one does: of a frame that isn't discarded, is on one of
-- the ports, and is for the node
abbrev pub transfer_at : Ears → Record → List Record → Option Transfer
transfer_at ears rec past = of_frame ears (frames ears.own past) (frame_for ears.own rec)
