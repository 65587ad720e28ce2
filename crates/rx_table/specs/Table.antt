-- A table of sessions as the definitions see it, the log that it stands for, and what it tells of a
-- frame.
use Rattle.std.specs.Prelude.{◌≡◌, ℕ, true, false, ◌≤◌, ◌+◌, ◌^◌, ◌==◌, ◌&&◌, if◌then◌else◌, List}
use Rattle.std.specs.Prelude.{[], ◌∷◌, length, take, Option, Some, None, ⊤}
use Rattle.can_id.specs.Identifiers.{key_of as key_of_ident, priority_of}
use Rattle.can_id.specs.declared.key.Kind.{Kind}
use Rattle.tail_frame.specs.Frames.{FrameOf, key_record}
use Rattle.transfer_crc.specs.Crc.{crc_of}
use Rattle.rx_session.specs.declared.session.Session.{Session}
use Rattle.rx_session.specs.Session.{Outcome, Delivered}
use Rattle.rx_session.specs.Seen.{kept, outcome_answer}
use Rattle.rx_table.specs.Keys.{KeyedFrame, same_kind, EachFrame}
use Rattle.rx_table.specs.Admitted.{has, admitted, key_of}
use Rattle.rx_table.specs.Ports.{Port, Entry, PortState, Answer, NoPort, NoSession, OfSession}
use Rattle.rx_table.specs.Ports.{Anonymous, ports_of, port_at, IsPortList, is_admitted, TableStands}
use Rattle.rx_table.specs.Ports.{AnswerAt, buffered}
use Rattle.rx_table.specs.Laws.{EachPort}
use Rattle.rx_table.specs.declared.port.Port as code_port
use Rattle.rx_table.specs.declared.fed.Fed as code_fed

-- the sources of a port, each with what its session keeps
abbrev pub entries_of : {S : Type 0} → List (ℕ × Session S) → List Entry
entries_of [] = []
entries_of (e ∷ es) = record { source = e.0; session = kept e.1 } ∷ entries_of es

module _ {S : Type 0} (extent : S → ℕ) where
  abbrev pub port_of : code_port.Port S → Port
  port_of p = record { kind = p.kind; port = p.port; sources = p.sources; extent = extent p.shape }

  abbrev pub state_of : code_port.Port S → PortState
  state_of p = record { port = port_of p; entries = entries_of p.sessions.entries }

  abbrev pub states : List (code_port.Port S) → List PortState
  states [] = []
  states (p ∷ ps) = state_of p ∷ states ps

-- the length of the buffers of all sessions of these ports
abbrev pub held_in : {S : Type 0} → List (code_port.Port S) → ℕ
held_in [] = 0
held_in (p ∷ ps) = buffered (entries_of p.sessions.entries) + held_in ps

-- a port takes at most 128 sources, and its extent is at most 2^32 bits
pub record IsPort (p : Port) : Type 0 where
  pub few : p.sources ≤ 128
  pub small : p.extent ≤ 2 ^ 29

pub record IsTable (ports : List Port) : Type 0 where
  pub distinct : IsPortList ports
  pub each : EachPort IsPort ports
  pub few : length ports ≤ 2 ^ 16

-- a table with these ports stands for a log, the newest frame first
pub record StandsFor (timeout : ℕ) (log : List KeyedFrame) (ps : List PortState) : Type 0 where
  pub table : IsTable (ports_of ps)
  pub sessions : TableStands crc_of timeout log ps

-- a frame with its key, if it has a source
abbrev pub with_source : Kind → ℕ → Option ℕ → FrameOf → Option KeyedFrame
with_source kind port None f = None
with_source kind port (Some source) f = Some (record { key = key_of kind port source; rec = key_record f })

abbrev pub keyed : FrameOf → Option KeyedFrame
keyed f = let key = key_of_ident f.ident in with_source key.kind key.port key.source f

-- the log with a frame in front; an anonymous frame is of no session, and isn't in it
abbrev pub log_with : Option KeyedFrame → List KeyedFrame → List KeyedFrame
log_with None log = log
log_with (Some f) log = f ∷ log

abbrev pub logged : FrameOf → List KeyedFrame → List KeyedFrame
logged f log = log_with (keyed f) log

-- no session heard a frame after this moment
abbrev pub EntriesHeard : ℕ → List Entry → Type 0
EntriesHeard now [] = ⊤
EntriesHeard now (e ∷ es) = e.session.heard ≤ now × EntriesHeard now es

abbrev pub HeardBy : ℕ → List PortState → Type 0
HeardBy now [] = ⊤
HeardBy now (p ∷ ps) = EntriesHeard now p.entries × HeardBy now ps

-- a table has heard nothing later than the frames of its log
abbrev pub TableHeard : Type 0
TableHeard =
    (timeout now : ℕ) (log : List KeyedFrame) (ps : List PortState)
    → EachFrame (λ f. f.rec.moment ≤ now) log → StandsFor timeout log ps → HeardBy now ps

-- what a table tells of a frame
abbrev pub fed_answer : code_fed.Fed → Answer
fed_answer code_fed.TheVariants.NoPort = NoPort
fed_answer code_fed.TheVariants.NoSession = NoSession
fed_answer (code_fed.TheVariants.Anonymous d) = Anonymous (Delivered d.bus d.priority d.tid d.first d.last d.moment d.payload.now)
fed_answer (code_fed.TheVariants.Session outcome) = OfSession (outcome_answer outcome)

-- a frame that is a whole transfer, delivered with this extent
abbrev pub whole : FrameOf → ℕ → Outcome
whole f extent = Delivered f.bus (priority_of f.ident) f.tail.tid f.line f.line f.moment (take extent f.body)

-- an anonymous frame is delivered at once
abbrev pub alone : FrameOf → Option Port → Answer
alone f None = NoPort
alone f (Some p) = Anonymous (whole f p.extent)

-- what is told of a frame is what the log says
abbrev pub ToldAt : ℕ → Option Port → FrameOf → Option KeyedFrame → List KeyedFrame → Answer
    → Type 0
ToldAt timeout port f None log answer = answer ≡ alone f port
ToldAt timeout port f (Some k) log answer = AnswerAt crc_of timeout port k log answer

abbrev pub port_on : List Port → FrameOf → Option Port
port_on ports f = let key = key_of_ident f.ident in port_at key.kind key.port ports

abbrev pub Told : ℕ → List Port → FrameOf → List KeyedFrame → Answer → Type 0
Told timeout ports f log answer = ToldAt timeout (port_on ports f) f (keyed f) log answer

-- a frame opens a session: its source is admitted with it, and wasn't before
abbrev pub OpensAt : Option Port → Option KeyedFrame → List KeyedFrame → Type 0
OpensAt (Some p) (Some k) log = (has k.key.source (admitted p.kind p.port p.sources log) ≡ false) × (is_admitted p k log ≡ true)
OpensAt _ _ log = ⊥

abbrev pub Opens : List Port → FrameOf → List KeyedFrame → Type 0
Opens ports f log = OpensAt (port_on ports f) (keyed f) log

-- the shape of a subscription
abbrev pub shape_at : {S : Type 0} → Kind → ℕ → List (code_port.Port S) → Option S
shape_at kind port [] = None
shape_at kind port (p ∷ ps) = if same_kind kind p.kind && (port == p.port) then Some p.shape else shape_at kind port ps

-- the sources of a subscription that have a session
abbrev pub admitted_on : Option Port → List KeyedFrame → List ℕ
admitted_on None log = []
admitted_on (Some p) log = admitted p.kind p.port p.sources log

-- a subscription that has no source yet
abbrev pub subscribed : Port → PortState
subscribed p = record { port = p; entries = [] }
