-- What is asked of a table.
use Rattle.std.specs.Prelude.{◌≡◌, ℕ, ◌≤◌, ◌^◌, true, List, Option, Some, None}
use Rattle.can_id.specs.declared.key.Kind.{Kind}
use Rattle.tail_frame.specs.Chains.{KeyRecord}
use Rattle.tail_frame.specs.Frames.{FrameOf}
use Rattle.transfer_crc.specs.Crc.{crc_of}
use Rattle.rx_table.specs.Admitted.{admitted, has, key_of}
use Rattle.rx_table.specs.Keys.{KeyedFrame, history}
use Rattle.rx_table.specs.Ports.{Port, Entry, PortState, PortStands, ports_of}
use Rattle.rx_table.specs.Received.{received}
use Rattle.rx_table.specs.Table.{StandsFor, keyed, port_on}
use Rattle.log_explain.specs.Reasons.{Listens, last_line, of_frame, of_source}
use Rattle.log_explain.specs.declared.reasons.reason.Reason.{Reason}

abbrev pub listens : ℕ → ℕ → List Port → Listens
listens own timeout ports = record { own = own; timeout = timeout; ports = ports }

-- a frame of this source on the port of this kind and number, with this record
abbrev pub frame_on : Kind → ℕ → ℕ → KeyRecord → KeyedFrame
frame_on kind port source r = record { key = key_of kind port source; rec = r }

-- if the source of a frame on a port has a session already, this is the line on which its last
-- delivery ends
abbrev pub IsLastOn : ℕ → Port → KeyedFrame → List KeyedFrame → ℕ → Type 0
IsLastOn timeout p k log last =
    has k.key.source (admitted p.kind p.port p.sources log) ≡ true
    → last ≡ last_line (received crc_of timeout (history k.key log)).delivered

abbrev pub IsLastAt : ℕ → List KeyedFrame → ℕ → Option Port → Option KeyedFrame → Type 0
IsLastAt timeout log last (Some p) (Some k) = IsLastOn timeout p k log last
IsLastAt timeout log last (Some p) None = Unit {0}
IsLastAt timeout log last None k = Unit {0}

-- the same of a frame on any port
abbrev pub IsLast : Listens → FrameOf → List KeyedFrame → ℕ → Type 0
IsLast w f log last = IsLastAt w.timeout log last (port_on w.ports f) (keyed f)

-- this is what a port says of a record of a source, where it stands for its log
abbrev pub Tells : ℕ → Port → List Entry → ℕ → KeyRecord → ℕ → Reason → Type 0
Tells timeout p es source r last reason =
    (log : List KeyedFrame) → p.extent ≤ 2 ^ 29 → PortStands crc_of timeout p log es
    → IsLastOn timeout p (frame_on p.kind p.port source r) log last
    → reason ≡ of_source timeout p (frame_on p.kind p.port source r) log

-- and what a table says of a frame
abbrev pub TellsFrame : ℕ → ℕ → List PortState → FrameOf → ℕ → Reason → Type 0
TellsFrame own timeout ps f last reason =
    (log : List KeyedFrame) → StandsFor timeout log ps → IsLast (listens own timeout (ports_of ps)) f log last
    → reason ≡ of_frame (listens own timeout (ports_of ps)) f log
