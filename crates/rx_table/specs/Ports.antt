-- The sessions of a table's ports, and the log that they stand for.
use Rattle.std.specs.Prelude.{◌≡◌, ℕ, Bool, true, false, ◌&&◌, ◌==◌, ◌+◌, ◌*◌, nat_lt}
use Rattle.std.specs.Prelude.{if◌then◌else◌, List, [], ◌∷◌, ◌++◌, length, replicate, Option, Some}
use Rattle.std.specs.Prelude.{None, ⊤}
use Rattle.can_id.specs.declared.key.Kind.{Kind}
use Rattle.tail_frame.specs.Chains.{KeyRecord}
use Rattle.rx_session.specs.Session.{Session, Outcome, Ignored, advance}
use Rattle.rx_table.specs.Keys.{KeyedFrame, same_kind, history}
use Rattle.rx_table.specs.Admitted.{has, is_on, admitted, key_of}
use Rattle.rx_table.specs.Stands.{Stands, OutcomeIs}

-- a subscription: a kind, the number of a subject or a service, how many sources it takes, and the
-- extent in bytes
pub record Port : Type 0 where
  pub kind : Kind
  pub port : ℕ
  pub sources : ℕ
  pub extent : ℕ

-- a source with its session
pub record Entry : Type 0 where
  pub source : ℕ
  pub session : Session

-- a subscription with its sources, in the order of their first start frames
pub record PortState : Type 0 where
  pub port : Port
  pub entries : List Entry

-- what a table answers at a frame: its port isn't subscribed, its source gets no session, what its
-- session does, or what an anonymous frame delivers
pub data Answer : Type 0 where
  NoPort : Answer
  NoSession : Answer
  OfSession : Outcome → Answer
  Anonymous : Outcome → Answer

-- whether a session gave an answer
abbrev pub is_of_session : Answer → Bool
is_of_session NoPort = false
is_of_session NoSession = false
is_of_session (OfSession outcome) = true
is_of_session (Anonymous outcome) = false

abbrev pub sources_of : List Entry → List ℕ
sources_of [] = []
sources_of (e ∷ es) = e.source ∷ sources_of es

abbrev pub ports_of : List PortState → List Port
ports_of [] = []
ports_of (p ∷ ps) = p.port ∷ ports_of ps

-- the subscription of a kind and a number
abbrev pub port_at : Kind → ℕ → List Port → Option Port
port_at kind port [] = None
port_at kind port (p ∷ ps) = if same_kind kind p.kind && (port == p.port) then Some p else port_at kind port ps

-- no kind and number is subscribed twice
abbrev pub IsPortList : List Port → Type 0
IsPortList [] = ⊤
IsPortList (p ∷ ps) = (port_at p.kind p.port ps ≡ None) × IsPortList ps

-- whether the source of a frame has a session after it
abbrev pub is_admitted : Port → KeyedFrame → List KeyedFrame → Bool
is_admitted p f log = has f.key.source (admitted p.kind p.port p.sources (f ∷ log))

-- the session of a source, before its first frame
abbrev pub open_session : ℕ → Session
open_session extent = record { bus = None; heard = 0; last = None; part = None; buffer = replicate extent 0 }

module _ (crc_more : ℕ → List ℕ → ℕ) (crc_start timeout : ℕ) where
  -- a source's session advances by a record
  abbrev pub advance_at : ℕ → KeyRecord → List Entry → List Entry
  advance_at source r [] = []
  advance_at source r (e ∷ es) = (if e.source == source then record { source = e.source; session = (advance crc_more crc_start timeout e.session r).0 } else e) ∷ advance_at source r es

  abbrev pub outcome_at : ℕ → KeyRecord → List Entry → Outcome
  outcome_at source r [] = Ignored
  outcome_at source r (e ∷ es) = if e.source == source then (advance crc_more crc_start timeout e.session r).1 else outcome_at source r es

  -- a start frame of a new source opens a session, where there are fewer than the port takes
  abbrev pub feed_port : Port → List Entry → KeyedFrame → List Entry
  feed_port p es f =
      if is_on p.kind p.port f
      then (if has f.key.source (sources_of es) then advance_at f.key.source f.rec es
      else (if f.rec.start && nat_lt (length es) p.sources then es ++ record { source = f.key.source; session = (advance crc_more crc_start timeout (open_session p.extent) f.rec).0 } ∷ [] else es))
      else es

  -- and is refused where there aren't; another frame of a new source is ignored
  abbrev pub answer_port : Port → List Entry → KeyedFrame → Answer
  answer_port p es f =
      if has f.key.source (sources_of es) then OfSession (outcome_at f.key.source f.rec es)
      else if f.rec.start
      then (if nat_lt (length es) p.sources then OfSession (advance crc_more crc_start timeout (open_session p.extent) f.rec).1 else NoSession)
      else OfSession Ignored

  -- all ports after a frame
  abbrev pub feed_table : List PortState → KeyedFrame → List PortState
  feed_table [] f = []
  feed_table (p ∷ ps) f = record { port = p.port; entries = feed_port p.port p.entries f } ∷ feed_table ps f

  -- what is answered: that of the port that the frame is on
  abbrev pub answer_table : List PortState → KeyedFrame → Answer
  answer_table [] f = NoPort
  answer_table (p ∷ ps) f = if is_on p.port.kind p.port.port f then answer_port p.port p.entries f else answer_table ps f

module _ (crc : List ℕ → ℕ) (timeout : ℕ) where
  -- each session stands for the records of its key, and its buffer has the port's extent
  abbrev pub EachStands : Port → List KeyedFrame → List Entry → Type 0
  EachStands p log [] = ⊤
  EachStands p log (e ∷ es) = Stands crc timeout (history (key_of p.kind p.port e.source) log) e.session × (length e.session.buffer ≡ p.extent) × EachStands p log es

  -- the sources of a port are the admitted ones
  pub record PortStands (p : Port) (log : List KeyedFrame) (es : List Entry) : Type 0 where
    pub sources_are : sources_of es ≡ admitted p.kind p.port p.sources log
    pub sessions : EachStands p log es

  -- a table stands for a log, with the newest frame first
  abbrev pub TableStands : List KeyedFrame → List PortState → Type 0
  TableStands log [] = ⊤
  TableStands log (p ∷ ps) = PortStands p.port log p.entries × TableStands log ps

  -- what is answered at a frame on a port: an admitted source's outcome says what ends there, and
  -- of the others a start frame is refused and any other frame ignored
  pub record AnswerIs (p : Port) (f : KeyedFrame) (log : List KeyedFrame)
      (answer : Answer) : Type 0 where
    pub session : is_admitted p f log ≡ true
        → (o : Outcome) × (answer ≡ OfSession o) × OutcomeIs crc timeout p.extent f.rec (history f.key log) o
    pub refused : is_admitted p f log ≡ false → f.rec.start ≡ true → answer ≡ NoSession
    pub ignored : is_admitted p f log ≡ false → f.rec.start ≡ false → answer ≡ OfSession Ignored

  -- what is answered at a frame on that port, or on none
  abbrev pub AnswerAt : Option Port → KeyedFrame → List KeyedFrame → Answer → Type 0
  AnswerAt None f log answer = answer ≡ NoPort
  AnswerAt (Some p) f log answer = AnswerIs p f log answer

-- the length of all buffers of a port
abbrev pub buffered : List Entry → ℕ
buffered [] = 0
buffered (e ∷ es) = length e.session.buffer + buffered es

-- the length of all buffers of a table
abbrev pub held_of : List PortState → ℕ
held_of [] = 0
held_of (p ∷ ps) = buffered p.entries + held_of ps

-- what a log makes these ports hold in bytes: the extent for each admitted source
abbrev pub held : List Port → List KeyedFrame → ℕ
held [] log = 0
held (p ∷ ps) log = length (admitted p.kind p.port p.sources log) * p.extent + held ps log

-- the most that they can hold
abbrev pub bound : List Port → ℕ
bound [] = 0
bound (p ∷ ps) = p.sources * p.extent + bound ps
