-- What the records of a log give on a node's ports.
use Rattle.std.specs.Prelude.{ℕ, Bool, false, ◌&&◌, if◌then◌else◌, List, [], ◌∷◌, take, Option}
use Rattle.std.specs.Prelude.{Some, None}
use Rattle.can_id.specs.Identifiers.{key_of, priority_of}
use Rattle.can_id.specs.declared.key.Key.{Key}
use Rattle.tail_frame.specs.Chains.{KeyRecord}
use Rattle.tail_frame.specs.Frames.{FrameOf}
use Rattle.tail_frame.specs.declared.logged.Record.{Record}
use Rattle.transfer_crc.specs.Crc.{crc_of}
use Rattle.rx_table.specs.Keys.{KeyedFrame, history}
use Rattle.rx_table.specs.Ports.{Port, is_admitted}
use Rattle.rx_table.specs.Received.{Delivery}
use Rattle.rx_table.specs.Steps.{delivery_at, is_bad}
use Rattle.rx_table.specs.Table.{keyed, port_on}
use Rattle.node_plan.specs.declared.plan.Plan.{Plan}
use Rattle.rx_table.specs.Heard.{frame_for, frames}
use Rattle.node_core.specs.Heard.{ports_of}
use Rattle.report_lines.specs.Readings.{reading_of}
use Rattle.node_core.specs.Types.{type_on}
use Rattle.report_lines.specs.declared.line.Line.{Line}
use Rattle.report_lines.specs.declared.line.Line.TheVariants.{Rx, NoSession}

-- the line of a delivery on a port of a plan with this extent
abbrev pub rx_line : Plan → ℕ → Key → Delivery → Line
rx_line plan extent key d = Rx (record {
  moment = d.first.moment;
  bus = d.first.bus;
  key = key;
  priority = d.last.priority;
  tid = d.first.tid;
  first = d.first.line;
  last = d.last.line;
  payload = take extent d.content;
  reading = reading_of (type_on plan key) (take extent d.content);
})

abbrev pub of_delivery : Plan → ℕ → Key → Option Delivery → List Line
of_delivery plan extent key None = []
of_delivery plan extent key (Some d) = rx_line plan extent key d ∷ []

-- the line of an anonymous message, which is one frame
abbrev pub anonymous_line : Plan → ℕ → FrameOf → Line
anonymous_line plan extent f = Rx (record {
  moment = f.moment;
  bus = f.bus;
  key = key_of f.ident;
  priority = priority_of f.ident;
  tid = f.tail.tid;
  first = f.line;
  last = f.line;
  payload = take extent f.body;
  reading = reading_of (type_on plan (key_of f.ident)) (take extent f.body);
})

-- the line of a start frame whose source has no session
abbrev pub refused_line : Key → KeyRecord → Line
refused_line key rec = NoSession (record { moment = rec.moment; bus = rec.bus; key = key; line = rec.line })

-- what a frame with a source gives on a port, after these: what its session delivers, or that there
-- is none for it
abbrev pub of_session : Plan → Port → Key → KeyedFrame → List KeyedFrame → List Line
of_session plan p key k log =
    if is_admitted p k log
    then of_delivery plan p.extent key (delivery_at crc_of plan.timeout k.rec (history k.key log))
    else (if k.rec.start then refused_line key k.rec ∷ [] else [])

-- an anonymous message is delivered at once
abbrev pub of_source : Plan → Port → FrameOf → List KeyedFrame → Option KeyedFrame → List Line
of_source plan p f log None = anonymous_line plan p.extent f ∷ []
of_source plan p f log (Some k) = of_session plan p (key_of f.ident) k log

abbrev pub on_port : Plan → FrameOf → List KeyedFrame → Option Port → List Line
on_port plan f log None = []
on_port plan f log (Some p) = of_source plan p f log (keyed f)

abbrev pub of_frame : Plan → List KeyedFrame → Option FrameOf → List Line
of_frame plan log None = []
of_frame plan log (Some f) = on_port plan f log (port_on (ports_of plan) f)

-- the lines on what a record gives, where these came before it, the newest first
abbrev pub got : Plan → Record → List Record → List Line
got plan rec past = of_frame plan (frames plan.node past) (frame_for plan.node rec)

abbrev pub bad_of_source : ℕ → Port → List KeyedFrame → Option KeyedFrame → Bool
bad_of_source timeout p log None = false
bad_of_source timeout p log (Some k) = is_admitted p k log && is_bad crc_of timeout k.rec (history k.key log)

abbrev pub bad_on_port : ℕ → FrameOf → List KeyedFrame → Option Port → Bool
bad_on_port timeout f log None = false
bad_on_port timeout f log (Some p) = bad_of_source timeout p log (keyed f)

abbrev pub bad_of_frame : Plan → List KeyedFrame → Option FrameOf → Bool
bad_of_frame plan log None = false
bad_of_frame plan log (Some f) = bad_on_port plan.timeout f log (port_on (ports_of plan) f)

-- whether a record ends a transfer whose bytes don't fit their CRC
abbrev pub is_bad_at : Plan → Record → List Record → Bool
is_bad_at plan rec past = bad_of_frame plan (frames plan.node past) (frame_for plan.node rec)
