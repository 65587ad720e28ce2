-- The records of a key that a session stands for. All its fields but the buffer are functions of
-- them.
use Rattle.std.specs.Prelude.{◌≡◌, ℕ, true, false, not, unwrap_or, List, [], ◌∷◌, length, take}
use Rattle.std.specs.Prelude.{Option, Some, None}
use Rattle.tail_frame.specs.Chains.{KeyRecord, tip, chain_bytes}
use Rattle.redundancy.specs.Force.{force, last_heard}
use Rattle.rx_session.specs.Session.{Part, Session, Outcome, Ignored, Held, BadCrc, Delivered}
use Rattle.rx_session.specs.Session.{capped}
use Rattle.rx_table.specs.Received.{Delivery, Run, Got, received}
use Rattle.rx_table.specs.Steps.{is_bad, is_held}

-- the transfer-ID of the last delivery
abbrev pub last_tid : List Delivery → Option ℕ
last_tid [] = None
last_tid (d ∷ ds) = Some d.first.tid

-- the buffer begins with these bytes, as far as both reach
abbrev pub Holds : List ℕ → List ℕ → Type 0
Holds buffer bytes = take (length buffer) bytes ≡ take (length bytes) buffer

module _ (crc : List ℕ → ℕ) where
  -- the reassembly of a run whose chain hasn't closed: the toggle expected is the other one than
  -- the last record's
  abbrev pub part_of : Run → Part
  part_of run = record {
    tid = run.first.tid;
    toggle = not (tip run.first run.since).toggle;
    first = run.first.line;
    moment = run.first.moment;
    taken = capped (length (chain_bytes run.first run.since));
    crc = crc (chain_bytes run.first run.since);
  }

  -- it is there exactly where the chain of the last begun start frame hasn't closed, and its bytes
  -- stand in the buffer
  pub record PartOf (part : Option Part) (buffer : List ℕ) (run : Run) : Type 0 where
    pub closed : (tip run.first run.since).end ≡ true → part ≡ None
    pub runs : (tip run.first run.since).end ≡ false
        → (part ≡ Some (part_of run)) × Holds buffer (chain_bytes run.first run.since)

  abbrev pub PartIs : Option Part → List ℕ → Option Run → Type 0
  PartIs part buffer None = part ≡ None
  PartIs part buffer (Some run) = PartOf part buffer run

  pub record StandsAt (in_force moment : Option ℕ) (got : Got) (s : Session) : Type 0 where
    pub bus : s.bus ≡ in_force
    pub heard : s.heard ≡ unwrap_or moment 0
    pub last : s.last ≡ last_tid got.delivered
    pub part : PartIs s.part s.buffer got.begun

  -- the session stands for these records of its key
  abbrev pub Stands : ℕ → List KeyRecord → Session → Type 0
  Stands timeout past s = StandsAt (force timeout past) (last_heard timeout past) (received crc timeout past) s

  -- no delivery ends at r
  abbrev pub EndsNone : ℕ → KeyRecord → List KeyRecord → Type 0
  EndsNone timeout r past = (received crc timeout (r ∷ past)).delivered ≡ (received crc timeout past).delivered

  -- an outcome at r says exactly what ends there, and whether a transfer began or went on without
  -- an end; the payload is cut to the extent
  abbrev pub OutcomeIs : ℕ → ℕ → KeyRecord → List KeyRecord → Outcome → Type 0
  OutcomeIs timeout extent r past Ignored = EndsNone timeout r past × (is_bad crc timeout r past ≡ false) × (is_held crc timeout r past ≡ false)
  OutcomeIs timeout extent r past Held = EndsNone timeout r past × (is_bad crc timeout r past ≡ false) × (is_held crc timeout r past ≡ true)
  OutcomeIs timeout extent r past BadCrc = EndsNone timeout r past × (is_bad crc timeout r past ≡ true)
  OutcomeIs timeout extent r past (Delivered bus priority tid first last moment payload) =
      (d : Delivery) × ((received crc timeout (r ∷ past)).delivered ≡ d ∷ (received crc timeout past).delivered)
      × (is_bad crc timeout r past ≡ false)
      × (bus ≡ d.first.bus) × (priority ≡ d.last.priority) × (tid ≡ d.first.tid) × (first ≡ d.first.line)
      × (last ≡ d.last.line) × (moment ≡ d.first.moment) × (payload ≡ take extent d.content)
