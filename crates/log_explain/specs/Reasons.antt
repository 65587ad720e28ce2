-- Why a record came to what it did. Records are a list with the newest first; `past` is what came
-- before.
use Rattle.std.specs.Prelude.{ℕ, ◌-◌, ◌==◌, if◌then◌else◌, List, [], ◌∷◌, Option, Some, None}
use Rattle.std.specs.Prelude.{Result, Ok, Err}
use Rattle.can_id.specs.declared.ident.Ident.{Ident}
use Rattle.can_id.specs.declared.ident.Ident.TheVariants as ident
use Rattle.redundancy.specs.Force.{force, heard, last_on}
use Rattle.tail_frame.specs.Chains.{KeyRecord, follows, tip, chain_bytes}
use Rattle.tail_frame.specs.Frames.{FrameOf}
use Rattle.tail_frame.specs.declared.discard.Discard.{Discard}
use Rattle.tail_frame.specs.declared.logged.Record.{Record}
use Rattle.transfer_crc.specs.Crc.{crc_of}
use Rattle.rx_table.specs.Heard.{frames}
use Rattle.rx_table.specs.Keys.{KeyedFrame, history}
use Rattle.rx_table.specs.Ports.{Port, is_admitted}
use Rattle.rx_table.specs.Received.{Delivery, Run, Got, begins, received}
use Rattle.rx_table.specs.Table.{keyed, port_on}
use Rattle.log_explain.specs.Reads.{read_of}
use Rattle.log_explain.specs.declared.reasons.reason.Change.{Change}
use Rattle.log_explain.specs.declared.reasons.reason.Reason.{Reason}
use Rattle.log_explain.specs.declared.reasons.reason.Reason.TheVariants.{
  Discarded,
  Own,
  Elsewhere,
  Unsubscribed,
  Unknown,
  NoSession,
  Standby,
  Copy,
  Begun,
  Delivered,
  BadCrc,
  Taken,
  StrayNone,
  StrayTid,
  StrayToggle,
}
use Rattle.log_explain.specs.declared.reasons.reason.Silence.{Silence}

-- the time from a moment on, if there is one
abbrev pub time_since : Option ℕ → ℕ → ℕ
time_since None now = 0
time_since (Some moment) now = now - moment

-- for how long a bus has been silent at r, a record of a key
abbrev pub silent : KeyRecord → List KeyRecord → ℕ → Silence
silent r past bus = record { bus = bus; micros = time_since (last_on bus past) r.moment }

-- r isn't heard: another bus is active, or none yet
abbrev pub unheard : KeyRecord → List KeyRecord → Option ℕ → Reason
unheard r past None = Unknown
unheard r past (Some bus) = Standby (silent r past bus)

-- the bus that was active before r, where r is on another
abbrev pub from : KeyRecord → List KeyRecord → Option ℕ → Option Silence
from r past None = None
from r past (Some bus) = if bus == r.bus then None else Some (silent r past bus)

-- the line on which the transfer begins that is running: the chain of the last begun start frame
-- has not closed
abbrev pub running : Option Run → Option ℕ
running None = None
running (Some run) = if (tip run.first run.since).end then None else Some run.first.line

-- r begins a transfer, and is its end too or not
abbrev pub begun_reason : KeyRecord → Change → Reason
begun_reason r change = if r.end then Delivered r.line change else Begun change

abbrev pub no_change : Change
no_change = record { over = None; from = None }

-- the line on which the last delivery ends; 0 where there is none
abbrev pub last_line : List Delivery → ℕ
last_line [] = 0
last_line (d ∷ ds) = d.last.line

-- r doesn't go on with the chain of a run: the chain has closed, or r has another transfer-ID, or
-- the toggle of the chain's last record
abbrev pub stray : KeyRecord → Run → Reason
stray r run =
    if (tip run.first run.since).end then StrayNone
    else if r.tid == run.first.tid then StrayToggle run.first.line
    else StrayTid run.first.tid

module _ (crc : List ℕ → ℕ) where
  -- r ends the chain of a run
  abbrev pub ended : KeyRecord → Run → Reason
  ended r run =
      if crc (chain_bytes run.first (r ∷ run.since)) == 0
      then Delivered run.first.line no_change
      else BadCrc run.first.line

  -- r is heard and isn't a start: it goes on with the chain of the last begun start frame, or it
  -- doesn't
  abbrev pub of_run : KeyRecord → Option Run → Reason
  of_run r None = StrayNone
  of_run r (Some run) =
      if follows run.first (tip run.first run.since) r
      then (if r.end then ended r run else Taken run.first.line)
      else stray r run

module _ (crc : List ℕ → ℕ) (timeout : ℕ) where
  -- r is heard, after this was received
  abbrev pub of_heard : KeyRecord → List KeyRecord → Got → Reason
  of_heard r past got =
      if begins timeout r past got.delivered
      then begun_reason r (record { over = running got.begun; from = from r past (force timeout past) })
      else if r.start then Copy (last_line got.delivered)
      else of_run crc r got.begun

  -- r is a record of a key whose source has a session, and past are those of the key before it
  abbrev pub of_key : KeyRecord → List KeyRecord → Reason
  of_key r past =
      if heard timeout r past
      then of_heard r past (received crc timeout past)
      else unheard r past (force timeout past)

-- what a node listens with: its own node-ID, the silence after which another bus becomes active,
-- and its ports
pub record Listens : Type 0 where
  pub own : ℕ
  pub timeout : ℕ
  pub ports : List Port

-- a frame isn't for the node: it is the node's own, or of a service for another node
abbrev pub aside : ℕ → Ident → Option Reason
aside own (ident.Message priority subject source) = if source == own then Some Own else None
aside own (ident.Anonymous priority subject pseudo) = None
aside own (ident.Service priority is_request service destination source) =
    if source == own then Some Own else if destination == own then None else Some (Elsewhere destination)

-- a frame on a port, where its source has a session, or gets one with it, and where it doesn't
abbrev pub of_source : ℕ → Port → KeyedFrame → List KeyedFrame → Reason
of_source timeout p k log =
    if is_admitted p k log then of_key crc_of timeout k.rec (history k.key log)
    else if k.rec.start then NoSession else Unknown

-- a frame on a port; an anonymous one has no source, and is delivered at once
abbrev pub on_port : ℕ → Port → FrameOf → List KeyedFrame → Option KeyedFrame → Reason
on_port timeout p f log None = Delivered f.line no_change
on_port timeout p f log (Some k) = of_source timeout p k log

abbrev pub of_port : ℕ → FrameOf → List KeyedFrame → Option Port → Reason
of_port timeout f log None = Unsubscribed
of_port timeout f log (Some p) = on_port timeout p f log (keyed f)

abbrev pub or_on_port : Listens → FrameOf → List KeyedFrame → Option Reason → Reason
or_on_port w f log None = of_port w.timeout f log (port_on w.ports f)
or_on_port w f log (Some reason) = reason

-- why a frame came to what it did, after these frames of sessions
abbrev pub of_frame : Listens → FrameOf → List KeyedFrame → Reason
of_frame w f log = or_on_port w f log (aside w.own f.ident)

-- why a record came to what it did that is read so
abbrev pub of_read : Listens → List KeyedFrame → Result FrameOf Discard → Reason
of_read w log (Err why) = Discarded why
of_read w log (Ok f) = of_frame w f log

-- why a record came to what it did, after these records
abbrev pub reason_of : Listens → Record → List Record → Reason
reason_of w rec past = of_read w (frames w.own past) (read_of rec)
