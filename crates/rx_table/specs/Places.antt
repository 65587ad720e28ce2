-- What one session of a port does, by its place among the port's sources.
use Rattle.std.specs.Prelude.{◌≡◌, ◌≢◌, ℕ, zero, suc, Bool, true, false, ◌<◌, nat_lt, ◌&&◌, List}
use Rattle.std.specs.Prelude.{[], ◌∷◌, ◌++◌, length, take, slice_get, if◌then◌else◌, Option, Some}
use Rattle.std.specs.Prelude.{None, option_and_then}
use Rattle.tail_frame.specs.Chains.{KeyRecord}
use Rattle.transfer_crc.specs.Crc.{crc_more}
use Rattle.rx_session.specs.Session.{Outcome, Ignored, Delivered, advance, with_body}
use Rattle.rx_session.specs.Seen.{says_whole, step_answer}
use Rattle.rx_table.specs.Admitted.{has}
use Rattle.rx_table.specs.Ports.{Port, Entry, PortState, Answer, NoPort, NoSession, OfSession}
use Rattle.rx_table.specs.Ports.{Anonymous, sources_of, open_session, advance_at, outcome_at}
use Rattle.rx_table.specs.declared.fed.Met as code_met
use Rattle.rx_table.specs.declared.fed.PortMet as code_port_met

-- the session at a place takes a record
abbrev pub step_nth : ℕ → List Entry → ℕ → KeyRecord → List Entry
step_nth timeout [] i r = []
step_nth timeout (e ∷ es) zero r = record { source = e.source; session = (advance crc_more 0xFFFF timeout e.session r).0 } ∷ es
step_nth timeout (e ∷ es) (suc i) r = e ∷ step_nth timeout es i r

abbrev pub outcome_nth : ℕ → List Entry → ℕ → KeyRecord → Outcome
outcome_nth timeout [] i r = Ignored
outcome_nth timeout (e ∷ es) zero r = (advance crc_more 0xFFFF timeout e.session r).1
outcome_nth timeout (e ∷ es) (suc i) r = outcome_nth timeout es i r

abbrev pub buffer_nth : List Entry → ℕ → List ℕ
buffer_nth [] i = []
buffer_nth (e ∷ es) zero = e.session.buffer
buffer_nth (e ∷ es) (suc i) = buffer_nth es i

-- a port's sources after a record of a source that has no session, and what is answered
abbrev pub opened : ℕ → Port → List Entry → ℕ → KeyRecord → List Entry
opened timeout p es source r = if r.start && nat_lt (length es) p.sources
    then es ++ record { source = source; session = (advance crc_more 0xFFFF timeout (open_session p.extent) r).0 } ∷ []
    else es

abbrev pub opened_answer : ℕ → Port → List Entry → KeyRecord → Answer
opened_answer timeout p es r = if r.start
    then (if nat_lt (length es) p.sources then OfSession (advance crc_more 0xFFFF timeout (open_session p.extent) r).1 else NoSession)
    else OfSession Ignored

-- and after a record of any source
abbrev pub fed_entries : ℕ → Port → List Entry → ℕ → KeyRecord → List Entry
fed_entries timeout p es source r = if has source (sources_of es) then advance_at crc_more 0xFFFF timeout source r es else opened timeout p es source r

abbrev pub port_answer : ℕ → Port → List Entry → ℕ → KeyRecord → Answer
port_answer timeout p es source r =
    if has source (sources_of es) then OfSession (outcome_at crc_more 0xFFFF timeout source r es) else opened_answer timeout p es r

-- whether that opens a session
pub record Adds (p : Port) (es : List Entry) (source : ℕ) (r : KeyRecord) : Type 0 where
  pub absent : has source (sources_of es) ≡ false
  pub start : r.start ≡ true
  pub room : length es < p.sources

-- the ports after a record of a source on the one at a place, what is answered, and whether that
-- opens a session
abbrev pub feed_nth : ℕ → List PortState → ℕ → ℕ → KeyRecord → List PortState
feed_nth timeout [] i source r = []
feed_nth timeout (p ∷ ps) zero source r = record { port = p.port; entries = fed_entries timeout p.port p.entries source r } ∷ ps
feed_nth timeout (p ∷ ps) (suc i) source r = p ∷ feed_nth timeout ps i source r

abbrev pub answer_nth : ℕ → List PortState → ℕ → ℕ → KeyRecord → Answer
answer_nth timeout [] i source r = NoPort
answer_nth timeout (p ∷ ps) zero source r = port_answer timeout p.port p.entries source r
answer_nth timeout (p ∷ ps) (suc i) source r = answer_nth timeout ps i source r

abbrev pub AddsNth : List PortState → ℕ → ℕ → KeyRecord → Type 0
AddsNth [] i source r = ⊥
AddsNth (p ∷ ps) zero source r = Adds p.port p.entries source r
AddsNth (p ∷ ps) (suc i) source r = AddsNth ps i source r

-- what is answered where a record met these, its payload lent from it or from these buffers
abbrev pub met_answer : List Entry → KeyRecord → code_port_met.PortMet → Answer
met_answer es r code_port_met.TheVariants.NoSession = NoSession
met_answer es r code_port_met.TheVariants.Ignored = OfSession Ignored
met_answer es r (code_port_met.TheVariants.Session index step) = OfSession (step_answer (buffer_nth es index) r step)
met_answer es r (code_port_met.TheVariants.Opened index step) = OfSession (step_answer (buffer_nth es index) r step)

-- the bytes of buffers that a port with this extent got where a frame met these
abbrev pub grown : ℕ → code_port_met.PortMet → ℕ
grown extent code_port_met.TheVariants.NoSession = 0
grown extent code_port_met.TheVariants.Ignored = 0
grown extent (code_port_met.TheVariants.Session index step) = 0
grown extent (code_port_met.TheVariants.Opened index step) = extent

-- whether a session was opened for a frame that met these
abbrev pub is_opened : code_port_met.PortMet → Bool
is_opened code_port_met.TheVariants.NoSession = false
is_opened code_port_met.TheVariants.Ignored = false
is_opened (code_port_met.TheVariants.Session index step) = false
is_opened (code_port_met.TheVariants.Opened index step) = true

-- what a frame of a source met names the place of the source's session, by the source at each place
-- before it and after it: the session was there, it is new, or there is none
abbrev pub NamesSession : Option ℕ → (before after : ℕ → Option ℕ) → code_port_met.PortMet → Type 0
NamesSession source before after code_port_met.TheVariants.NoSession = (i : ℕ) → before i ≢ source
NamesSession source before after code_port_met.TheVariants.Ignored = (i : ℕ) → before i ≢ source
NamesSession source before after (code_port_met.TheVariants.Session index step) =
    (before index ≡ source) × (after index ≡ source)
NamesSession source before after (code_port_met.TheVariants.Opened index step) =
    ((i : ℕ) → before i ≢ source) × (after index ≡ source)

-- the source of a session, by its port's place among these and its own place among the port's
abbrev pub source_at : List PortState → ℕ → ℕ → Option ℕ
source_at ps place index =
    option_and_then (λ (p : PortState). slice_get (sources_of p.entries) index) (slice_get ps place)

abbrev pub met_nth : List PortState → ℕ → KeyRecord → code_port_met.PortMet → Answer
met_nth [] i r met = NoPort
met_nth (p ∷ ps) zero r met = met_answer p.entries r met
met_nth (p ∷ ps) (suc i) r met = met_nth ps i r met

abbrev pub table_answer : List PortState → KeyRecord → code_met.Met → Answer
table_answer ps r code_met.TheVariants.NoPort = NoPort
table_answer ps r (code_met.TheVariants.Anonymous d) = Anonymous (Delivered d.bus d.priority d.tid d.first d.last d.moment (take d.count r.body))
table_answer ps r (code_met.TheVariants.Port place met) = met_nth ps place r met

-- the place of the session that took a whole transfer, if one did
abbrev pub whole_index : code_port_met.PortMet → Option ℕ
whole_index code_port_met.TheVariants.NoSession = None
whole_index code_port_met.TheVariants.Ignored = None
whole_index (code_port_met.TheVariants.Session index step) = if says_whole step then Some index else None
whole_index (code_port_met.TheVariants.Opened index step) = if says_whole step then Some index else None

-- the sessions of a port with the bytes of a record in front of the buffer of the one at a place
abbrev pub put_entry : List Entry → ℕ → KeyRecord → List Entry
put_entry [] i r = []
put_entry (e ∷ es) zero r = record { source = e.source; session = with_body e.session r } ∷ es
put_entry (e ∷ es) (suc i) r = e ∷ put_entry es i r

-- and those of a table
abbrev pub put_nth : List PortState → ℕ → ℕ → KeyRecord → List PortState
put_nth [] place i r = []
put_nth (p ∷ ps) zero i r = record { port = p.port; entries = put_entry p.entries i r } ∷ ps
put_nth (p ∷ ps) (suc place) i r = p ∷ put_nth ps place i r

abbrev pub put_some : List PortState → ℕ → Option ℕ → KeyRecord → List PortState
put_some ps place None r = ps
put_some ps place (Some i) r = put_nth ps place i r

-- the same of the session that took the record as a whole transfer, if one did
abbrev pub put_met : List PortState → KeyRecord → code_met.Met → List PortState
put_met ps r code_met.TheVariants.NoPort = ps
put_met ps r (code_met.TheVariants.Anonymous d) = ps
put_met ps r (code_met.TheVariants.Port place met) = put_some ps place (whole_index met) r
