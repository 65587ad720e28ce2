-- The laws of reception: sessions and tables answer what the records say, and hold no more than the
-- bound.
use Rattle.std.specs.Prelude.{◌≡◌, ℕ, true, false, ◌+◌, ◌<◌, ◌≤◌, ◌^◌, List, [], ◌∷◌, ◌++◌, length}
use Rattle.std.specs.Prelude.{take, Option, Some, None, ⊤}
use Rattle.can_id.specs.declared.key.Kind.{Kind}
use Rattle.tail_frame.specs.Chains.{KeyRecord}
use Rattle.rx_session.specs.Session.{Session, Outcome, Ignored, Held, BadCrc, Delivered, accept}
use Rattle.rx_session.specs.Session.{advance}
use Rattle.rx_table.specs.Received.{Delivery, received}
use Rattle.rx_table.specs.Steps.{add, delivery_at}
use Rattle.rx_table.specs.Keys.{SessionKey, KeyedFrame, history, EachFrame}
use Rattle.rx_table.specs.Admitted.{has, is_on, sources, admitted, key_of}
use Rattle.rx_table.specs.Stands.{Stands, OutcomeIs}
use Rattle.rx_table.specs.Ports.{Port, Entry, PortState, ports_of, port_at, IsPortList, feed_port}
use Rattle.rx_table.specs.Ports.{answer_port, feed_table, answer_table, PortStands, TableStands}
use Rattle.rx_table.specs.Ports.{AnswerIs, AnswerAt, held_of, held, bound}

-- the CRC of bytes in a row is worked out one part after the other
abbrev pub CrcOfParts : (ℕ → List ℕ → ℕ) → Type 0
CrcOfParts crc_more = (sum : ℕ) (a b : List ℕ) → crc_more sum (a ++ b) ≡ crc_more (crc_more sum a) b

-- a form of a session's step keeps what the session stands for and the length of its buffer, and
-- answers what the records say
abbrev pub SimulatesBy : ((ℕ → List ℕ → ℕ) → ℕ → ℕ → Session → KeyRecord → Session × Outcome)
    → Type 0
SimulatesBy form =
    (crc_more : ℕ → List ℕ → ℕ) (crc_start timeout : ℕ) → CrcOfParts crc_more
    → (past : List KeyRecord) (r : KeyRecord) (s : Session) → length s.buffer + 2 < 2 ^ 64 → Stands (crc_more crc_start) timeout past s
    → Stands (crc_more crc_start) timeout (r ∷ past) (form crc_more crc_start timeout s r).0
    × (length (form crc_more crc_start timeout s r).0.buffer ≡ length s.buffer)
    × OutcomeIs (crc_more crc_start) timeout (length s.buffer) r past (form crc_more crc_start timeout s r).1

-- both do so: the one that puts each body into the buffer, and the one that leaves a whole transfer
-- in its frame
abbrev pub Simulates : Type 0
Simulates = SimulatesBy accept

abbrev pub Advances : Type 0
Advances = SimulatesBy advance

-- what is delivered grows by what ends at each record
abbrev pub DeliveredStep : Type 0
DeliveredStep = (crc : List ℕ → ℕ) (timeout : ℕ) (r : KeyRecord) (past : List KeyRecord) → (received crc timeout (r ∷ past)).delivered ≡ add (delivery_at crc timeout r past) (received crc timeout past).delivered

-- an outcome tells this delivery, cut to the extent, or none
abbrev pub Tells : Option Delivery → ℕ → Outcome → Type 0
Tells o extent Ignored = o ≡ None
Tells o extent Held = o ≡ None
Tells o extent BadCrc = o ≡ None
Tells o extent (Delivered bus priority tid first last moment payload) =
    (d : Delivery) × (o ≡ Some d) × (bus ≡ d.first.bus) × (priority ≡ d.last.priority) × (tid ≡ d.first.tid) × (first ≡ d.first.line) × (last ≡ d.last.line) × (moment ≡ d.first.moment) × (payload ≡ take extent d.content)

-- an outcome that says what ends at a record tells the delivery that ends there
abbrev pub OutcomeTells : Type 0
OutcomeTells = (crc : List ℕ → ℕ) (timeout extent : ℕ) (r : KeyRecord) (past : List KeyRecord) (outcome : Outcome) → OutcomeIs crc timeout extent r past outcome → Tells (delivery_at crc timeout r past) extent outcome

-- a session has heard nothing later than its log
abbrev pub HeardInTime : Type 0
HeardInTime =
    (crc : List ℕ → ℕ) (timeout : ℕ) (key : SessionKey) (log : List KeyedFrame) (s : Session) (now : ℕ)
    → EachFrame (λ f. f.rec.moment ≤ now) log → Stands crc timeout (history key log) s → s.heard ≤ now

-- the sessions of a port keep what they stand for at each frame, and answer what the log says
abbrev pub PortSimulates : Type 0
PortSimulates =
    (crc_more : ℕ → List ℕ → ℕ) (crc_start timeout : ℕ) → CrcOfParts crc_more
    → (p : Port) (log : List KeyedFrame) (es : List Entry) (f : KeyedFrame) → p.extent + 2 < 2 ^ 64
    → PortStands (crc_more crc_start) timeout p log es
    → PortStands (crc_more crc_start) timeout p (f ∷ log) (feed_port crc_more crc_start timeout p es f)
    × (is_on p.kind p.port f ≡ true → AnswerIs (crc_more crc_start) timeout p f log (answer_port crc_more crc_start timeout p es f))

-- P of each port
abbrev pub EachPort : (Port → Type 0) → List Port → Type 0
EachPort P [] = ⊤
EachPort P (p ∷ ps) = P p × EachPort P ps

-- and so do those of a table
abbrev pub TableSimulates : Type 0
TableSimulates =
    (crc_more : ℕ → List ℕ → ℕ) (crc_start timeout : ℕ) → CrcOfParts crc_more
    → (log : List KeyedFrame) (ps : List PortState) (f : KeyedFrame) → EachPort (λ p. p.extent + 2 < 2 ^ 64) (ports_of ps)
    → TableStands (crc_more crc_start) timeout log ps
    → TableStands (crc_more crc_start) timeout (f ∷ log) (feed_table crc_more crc_start timeout ps f)
    × (ports_of (feed_table crc_more crc_start timeout ps f) ≡ ports_of ps)
    × AnswerAt (crc_more crc_start) timeout (port_at f.key.kind f.key.port (ports_of ps)) f log (answer_table crc_more crc_start timeout ps f)

-- where no other port is on a frame, one port alone is fed
abbrev pub FeedsOne : Type 0
FeedsOne =
    (crc_more : ℕ → List ℕ → ℕ) (crc_start timeout : ℕ) (front back : List PortState) (p : PortState) (f : KeyedFrame)
    → IsPortList (ports_of (front ++ p ∷ back)) → is_on p.port.kind p.port.port f ≡ true
    → (feed_table crc_more crc_start timeout (front ++ p ∷ back) f ≡ front ++ record { port = p.port; entries = feed_port crc_more crc_start timeout p.port p.entries f } ∷ back)
    × (answer_table crc_more crc_start timeout (front ++ p ∷ back) f ≡ answer_port crc_more crc_start timeout p.port p.entries f)

-- a frame on no port changes nothing
abbrev pub FeedsNone : Type 0
FeedsNone =
    (crc_more : ℕ → List ℕ → ℕ) (crc_start timeout : ℕ) (ps : List PortState) (f : KeyedFrame)
    → port_at f.key.kind f.key.port (ports_of ps) ≡ None → feed_table crc_more crc_start timeout ps f ≡ ps

-- a source with no start frame delivers nothing
abbrev pub Quiet : Type 0
Quiet = (crc : List ℕ → ℕ) (timeout : ℕ) (kind : Kind) (port source : ℕ) (log : List KeyedFrame) → has source (sources kind port log) ≡ false → (received crc timeout (history (key_of kind port source) log)).delivered ≡ []

-- an admitted source stays admitted, and one that sent a start frame and isn't admitted stays
-- without a session
pub record AdmittedLasts : Type 0 where
  pub stays : (kind : Kind) (port count source : ℕ) (newer log : List KeyedFrame)
      → has source (admitted kind port count log) ≡ true
      → has source (admitted kind port count (newer ++ log)) ≡ true
  pub stays_out : (kind : Kind) (port count source : ℕ) (newer log : List KeyedFrame)
      → has source (sources kind port log) ≡ true
      → has source (admitted kind port count log) ≡ false
      → has source (admitted kind port count (newer ++ log)) ≡ false

-- the buffers of a table have the length that its log says, which is at most the bound
pub record HeldWithin : Type 0 where
  pub admitted_few : (kind : Kind) (port count : ℕ) (log : List KeyedFrame)
      → length (admitted kind port count log) ≤ count
  pub held_is : (crc : List ℕ → ℕ) (timeout : ℕ) (log : List KeyedFrame) (ps : List PortState)
      → TableStands crc timeout log ps → held_of ps ≡ held (ports_of ps) log
  pub within : (ports : List Port) (log : List KeyedFrame) → held ports log ≤ bound ports
