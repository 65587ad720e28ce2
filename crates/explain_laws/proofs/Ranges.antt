-- The numbers of a line on a record are those of the log.
use Rattle.std.proofs.Common.{ℕ, ◌-◌, Bool, true, false, cond, ◌&&◌, eqb, List, [], ◌∷◌, length, take, Option, Some, None, Result, Ok, Err, subst, arith}
use Rattle.std.specs.Prelude.{⊤, All, IfSome}
use Rattle.std.specs.Option.{option_and_then}
use Rattle.std.specs.Result.{result_ok}
use Rattle.std.proofs.lemmas.Bool.{cond_both}
use Rattle.std.proofs.lemmas.List.Elements.{All-head, All-tail}
use Rattle.can_id.specs.Identifiers.{destination_of, field, ident_of, is_discarded as is_no_ident, is_set, key_of as key_of_ident, message_of, service_of}
use Rattle.can_id.specs.declared.ident.Ident.{Ident}
use Rattle.can_id.specs.declared.ident.Ident.TheVariants as ident
use Rattle.can_id.specs.declared.key.Kind.{Kind}
use Rattle.tail_frame.specs.Chains.{AtEach, KeyRecord, chain_bytes, closes_at, follows, tip, without_crc}
use Rattle.tail_frame.specs.Frames.{FrameOf, frame_of, framed, is_discarded, key_record, last_byte, tail_of}
use Rattle.tail_frame.specs.declared.discard.Discard.{Discard}
use Rattle.tail_frame.specs.declared.logged.Record.{Record}
use Rattle.transfer_crc.specs.Crc.{crc_of}
use Rattle.redundancy.specs.Force.{force, force_after, hands_over, heard, last_on}
use Rattle.rx_table.specs.Heard.{frames, if_for, is_for, with_frame}
use Rattle.rx_table.specs.Keys.{EachFrame, KeyedFrame, SessionKey, bears_on, history}
use Rattle.rx_table.specs.Ports.{Port, is_admitted}
use Rattle.rx_table.specs.Received.{Delivery, Got, Run, alone, begins, not_begun, received}
use Rattle.rx_table.specs.Table.{log_with, port_on, with_source}
use Rattle.delivery_theorems.specs.Selected.{Each}
use Rattle.log_explain.specs.Reads.{read_of}
use Rattle.log_explain.specs.Reasons.{Listens, aside, begun_reason, ended, from, last_line, no_change, of_heard, of_key, of_port, of_read, of_run, on_port, or_on_port, running, silent, stray, time_since, unheard}
use Rattle.log_explain.specs.declared.reasons.reason.Change.{Change}
use Rattle.log_explain.specs.declared.reasons.reason.Reason.{Reason}
use Rattle.log_explain.specs.declared.reasons.reason.Reason.TheVariants.{BadCrc, Begun, Copy, Delivered, Elsewhere, NoSession, Own, StrayNone, StrayTid, StrayToggle, Taken, Unknown}
use Rattle.log_explain.proofs.Discards.{reads_each}
use Rattle.log_explain.specs.Lines.{line_on, transfer_in}
use Rattle.explain_laws.specs.Text.{IsBus, IsChange, IsNumber, IsOnRecord, IsReason, IsSilence, IsTransfer}

-- ---- identifiers

record FitsIdent (i : Ident) : Type 0 where
  port : IsNumber (key_of_ident i).port
  source : IfSome (key_of_ident i).source IsNumber
  destination : IfSome (destination_of i) IsNumber

service_fits : (n : ℕ) → FitsIdent (service_of n)
service_fits n = record { port = omega arith; source = omega arith; destination = omega arith }

message_fits : (n : ℕ) → FitsIdent (message_of n)
message_fits n =
    cond_both (is_set n 24) (ident.Anonymous (field n 26 3) (field n 8 13) (field n 0 7)) (ident.Message (field n 26 3) (field n 8 13) (field n 0 7)) FitsIdent
    (λ _. record { port = omega arith; source = tt; destination = tt })
    (λ _. record { port = omega arith; source = omega arith; destination = tt })

ident_fits : (n : ℕ) → IfSome (ident_of n) FitsIdent
ident_fits n =
    cond_both (is_no_ident n) None (cond (is_set n 25) (Some (service_of n)) (Some (message_of n))) (λ (o : Option Ident). IfSome o FitsIdent) (λ _. tt)
    (λ _. cond_both (is_set n 25) (Some (service_of n)) (Some (message_of n)) (λ (o : Option Ident). IfSome o FitsIdent) (λ _. service_fits n) (λ _. message_fits n))

module _ (names : List (List ℕ)) where
  -- a record on one of the buses, with a line and a moment that 64 bits hold
  pub record IsLogged (rec : Record) : Type 0 where
    pub line : IsNumber rec.line
    pub moment : IsNumber rec.moment
    pub bus : IsBus names rec.bus

  -- ---- the records of a key

  pub record Fits (r : KeyRecord) : Type 0 where
    pub line : IsNumber r.line
    pub moment : IsNumber r.moment
    pub bus : IsBus names r.bus
    pub tid : IsNumber r.tid

  abbrev pub AllFit : List KeyRecord → Type 0
  AllFit h = AtEach (λ r _. Fits r) h

  pub force_fits : (timeout : ℕ) (h : List KeyRecord) → AllFit h → IfSome (force timeout h) (IsBus names)
  force_fits timeout [] x = tt
  force_fits timeout (r ∷ past) x = after (force timeout past) (force_fits timeout past x.1)
    where
      after : (o : Option ℕ) → IfSome o (IsBus names) → IfSome (force_after timeout r past o) (IsBus names)
      after None h = cond_both r.start (Some r.bus) None (λ (o : Option ℕ). IfSome o (IsBus names)) (λ _. x.0.bus) (λ _. tt)
      after (Some c) h = cond_both (hands_over timeout c r past) (Some r.bus) (Some c) (λ (o : Option ℕ). IfSome o (IsBus names)) (λ _. x.0.bus) (λ _. h)

  silent_fits : (r : KeyRecord) (past : List KeyRecord) (bus : ℕ) → Fits r → IsBus names bus → IsSilence names (silent r past bus)
  silent_fits r past bus f b = record { bus = b; micros = since (last_on bus past) }
    where
      since : (o : Option ℕ) → IsNumber (time_since o r.moment)
      since None = omega arith
      since (Some m) = let low = f.moment in omega arith

  from_fits : (r : KeyRecord) (past : List KeyRecord) (o : Option ℕ) → Fits r → IfSome o (IsBus names) → IfSome (from r past o) (IsSilence names)
  from_fits r past None f b = tt
  from_fits r past (Some bus) f b = cond_both (eqb bus r.bus) None (Some (silent r past bus)) (λ o. IfSome o (IsSilence names)) (λ _. tt) (λ _. silent_fits r past bus f b)

  -- ---- what they give

  abbrev RunFits : Option Run → Type 0
  RunFits None = ⊤
  RunFits (Some run) = Fits run.first

  abbrev AreFit : List Delivery → Type 0
  AreFit ds = Each (λ d. Fits d.last) ds

  record GotFits (got : Got) : Type 0 where
    begun : RunFits got.begun
    delivered : AreFit got.delivered

  goes_on : (timeout : ℕ) (r : KeyRecord) (past : List KeyRecord) (o : Option Run) (ds : List Delivery) → Fits r → RunFits o → AreFit ds → GotFits (not_begun crc_of timeout r past o ds)
  goes_on timeout r past None ds f b k = record { begun = tt; delivered = k }
  goes_on timeout r past (Some run) ds f b k =
      let d : Delivery = record { first = run.first; last = r; place = length past; content = without_crc (chain_bytes run.first (r ∷ run.since)) } in
      record {
        begun = b;
        delivered = cond_both (closes_at run.first run.since r && eqb (crc_of (chain_bytes run.first (r ∷ run.since))) 0) (d ∷ ds) ds AreFit (λ _. (f, k)) (λ _. k);
      }

  got_fits : (timeout : ℕ) (h : List KeyRecord) → AllFit h → GotFits (received crc_of timeout h)
  got_fits timeout [] x = record { begun = tt; delivered = tt }
  got_fits timeout (r ∷ past) x =
      let g = received crc_of timeout past in
      let k = got_fits timeout past x.1 in
      let d : Delivery = record { first = r; last = r; place = length past; content = r.body } in
      let b : Got = record { begun = Some (record { first = r; since = [] }); delivered = alone crc_of timeout r past g.delivered } in
      cond_both (begins timeout r past g.delivered) b (not_begun crc_of timeout r past g.begun g.delivered) GotFits
      (λ _. record { begun = x.0; delivered = cond_both r.end (d ∷ g.delivered) g.delivered AreFit (λ _. (x.0, k.delivered)) (λ _. k.delivered) })
      (λ _. goes_on timeout r past g.begun g.delivered x.0 k.begun k.delivered)

  -- ---- why

  abbrev Says : Reason → Type 0
  Says reason = IsReason names reason

  says_both : (b : Bool) (x y : Reason) → Says x → Says y → Says (cond b x y)
  says_both true x y p q = p
  says_both false x y p q = q

  running_fits : (o : Option Run) → RunFits o → IfSome (running o) IsNumber
  running_fits None f = tt
  running_fits (Some run) f = cond_both (tip run.first run.since).end None (Some run.first.line) (λ (o : Option ℕ). IfSome o IsNumber) (λ _. tt) (λ _. f.line)

  last_fits : (ds : List Delivery) → AreFit ds → IsNumber (last_line ds)
  last_fits [] k = omega arith
  last_fits (d ∷ ds) k = k.0.line

  nothing_changes : IsChange names no_change
  nothing_changes = record { over = tt; from = tt }

  run_says : (r : KeyRecord) (o : Option Run) → RunFits o → Says (of_run crc_of r o)
  run_says r None f = tt
  run_says r (Some run) f =
      let a = run.first in
      let fits = eqb (crc_of (chain_bytes a (r ∷ run.since))) 0 in
      says_both (follows a (tip a run.since) r) (cond r.end (ended crc_of r run) (Taken a.line)) (stray r run)
      (says_both r.end (ended crc_of r run) (Taken a.line) (says_both fits (Delivered a.line no_change) (BadCrc a.line) (f.line, nothing_changes) f.line) f.line)
      (says_both (tip a run.since).end StrayNone (cond (eqb r.tid a.tid) (StrayToggle a.line) (StrayTid a.tid)) tt
      (says_both (eqb r.tid a.tid) (StrayToggle a.line) (StrayTid a.tid) f.line f.tid))

  unheard_says : (r : KeyRecord) (past : List KeyRecord) (o : Option ℕ) → Fits r → IfSome o (IsBus names) → Says (unheard r past o)
  unheard_says r past None f b = tt
  unheard_says r past (Some bus) f b = silent_fits r past bus f b

  key_says : (timeout : ℕ) (r : KeyRecord) (past : List KeyRecord) → Fits r → AllFit past → Says (of_key crc_of timeout r past)
  key_says timeout r past f x =
      let got = received crc_of timeout past in
      let k = got_fits timeout past x in
      let bus = force timeout past in
      let b = force_fits timeout past x in
      let change : Change = record { over = running got.begun; from = from r past bus } in
      let c : IsChange names change = record { over = running_fits got.begun k.begun; from = from_fits r past bus f b } in
      let other = cond r.start (Copy (last_line got.delivered)) (of_run crc_of r got.begun) in
      says_both (heard timeout r past) (of_heard crc_of timeout r past got) (unheard r past bus)
      (says_both (begins timeout r past got.delivered) (begun_reason r change) other
      (says_both r.end (Delivered r.line change) (Begun change) (f.line, c) c)
      (says_both r.start (Copy (last_line got.delivered)) (of_run crc_of r got.begun) (last_fits got.delivered k.delivered) (run_says r got.begun k.begun)))
      (unheard_says r past bus f b)

  -- ---- the frames of a log

  record FrameFits (f : FrameOf) : Type 0 where
    line : IsNumber f.line
    moment : IsNumber f.moment
    bus : IsBus names f.bus
    tid : IsNumber f.tail.tid
    ident : FitsIdent f.ident

  framed_fits : (rec : Record) (o : Option Ident) (byte : Option ℕ) → IsLogged rec → IfSome o FitsIdent → IfSome (option_and_then (λ i. option_and_then (framed rec i) byte) o) FrameFits
  framed_fits rec None byte h f = tt
  framed_fits rec (Some i) None h f = tt
  framed_fits rec (Some i) (Some b) h f =
      let whole : FrameOf = record { line = rec.line; moment = rec.moment; bus = rec.bus; ident = i; tail = tail_of b; body = take (length rec.bytes - 1) rec.bytes } in
      cond_both (is_discarded i (tail_of b) (length rec.bytes - 1)) None (Some whole) (λ (o : Option FrameOf). IfSome o FrameFits) (λ _. tt)
      (λ _. record { line = h.line; moment = h.moment; bus = h.bus; tid = omega arith; ident = f })

  frame_fits : (rec : Record) → IsLogged rec → IfSome (frame_of rec) FrameFits
  frame_fits rec h = framed_fits rec (ident_of rec.ident) (last_byte rec.bytes) h (ident_fits rec.ident)

  pub record KeyedFits (k : KeyedFrame) : Type 0 where
    pub rec : Fits k.rec
    pub source : IsNumber k.key.source

  abbrev pub FramesFit : List KeyedFrame → Type 0
  FramesFit log = EachFrame KeyedFits log

  record_fits : (f : FrameOf) → FrameFits f → Fits (key_record f)
  record_fits f x = record { line = x.line; moment = x.moment; bus = x.bus; tid = x.tid }

  source_fits : (f : FrameOf) (kind : Kind) (port : ℕ) (source : Option ℕ) (log : List KeyedFrame) → FrameFits f → IfSome source IsNumber → FramesFit log → FramesFit (log_with (with_source kind port source f) log)
  source_fits f kind port None log x s each = each
  source_fits f kind port (Some source) log x s each = (record { rec = record_fits f x; source = s }, each)

  for_fits : (own : ℕ) (o : Option FrameOf) (log : List KeyedFrame) → IfSome o FrameFits → FramesFit log → FramesFit (with_frame (if_for own o) log)
  for_fits own None log x each = each
  for_fits own (Some f) log x each =
      let q = key_of_ident f.ident in
      cond_both (is_for own f.ident) (Some f) None (λ (o : Option FrameOf). FramesFit (with_frame o log)) (λ _. source_fits f q.kind q.port q.source log x x.ident.source each) (λ _. each)

  pub frames_fit : (own : ℕ) (past : List Record) → All IsLogged past → FramesFit (frames own past)
  frames_fit own [] h = tt
  frames_fit own (rec ∷ past) h =
      for_fits own (frame_of rec) (frames own past) (frame_fits rec (All-head IsLogged rec past h)) (frames_fit own past (All-tail IsLogged rec past h))

  pub history_fits : (key : SessionKey) (log : List KeyedFrame) → FramesFit log → AllFit (history key log)
  history_fits key [] x = tt
  history_fits key (f ∷ log) x =
      cond_both (bears_on key f) (f.rec ∷ history key log) (history key log) AllFit (λ _. (x.0.rec, history_fits key log x.1)) (λ _. history_fits key log x.1)

  -- ---- a line on a record

  transfer_fits : (o : Option FrameOf) → IfSome o FrameFits → IfSome (transfer_in o) IsTransfer
  transfer_fits None x = tt
  transfer_fits (Some f) x = record { port = x.ident.port; source = x.ident.source; tid = x.tid }

  aside_says : (own : ℕ) (i : Ident) → FitsIdent i → IfSome (aside own i) Says
  aside_says own (ident.Message priority subject source) x = cond_both (eqb source own) (Some Own) None (λ (o : Option Reason). IfSome o Says) (λ _. tt) (λ _. tt)
  aside_says own (ident.Anonymous priority subject pseudo) x = tt
  aside_says own (ident.Service priority is_request service destination source) x =
      cond_both (eqb source own) (Some Own) (cond (eqb destination own) None (Some (Elsewhere destination))) (λ (o : Option Reason). IfSome o Says) (λ _. tt)
      (λ _. cond_both (eqb destination own) None (Some (Elsewhere destination)) (λ (o : Option Reason). IfSome o Says) (λ _. tt) (λ _. x.destination))

  source_says : (timeout : ℕ) (p : Port) (f : FrameOf) (log : List KeyedFrame) (kind : Kind) (port : ℕ) (source : Option ℕ) → FrameFits f → FramesFit log → Says (on_port timeout p f log (with_source kind port source f))
  source_says timeout p f log kind port None x each = (x.line, nothing_changes)
  source_says timeout p f log kind port (Some source) x each =
      let k : KeyedFrame = record { key = record { kind = kind; port = port; source = source }; rec = key_record f } in
      let past = history k.key log in
      says_both (is_admitted p k log) (of_key crc_of timeout k.rec past) (cond k.rec.start NoSession Unknown)
      (key_says timeout k.rec past (record_fits f x) (history_fits k.key log each)) (says_both k.rec.start NoSession Unknown tt tt)

  port_says : (timeout : ℕ) (f : FrameOf) (log : List KeyedFrame) (o : Option Port) → FrameFits f → FramesFit log → Says (of_port timeout f log o)
  port_says timeout f log None x each = tt
  port_says timeout f log (Some p) x each = let q = key_of_ident f.ident in source_says timeout p f log q.kind q.port q.source x each

  or_says : (w : Listens) (f : FrameOf) (log : List KeyedFrame) (o : Option Reason) → IfSome o Says → FrameFits f → FramesFit log → Says (or_on_port w f log o)
  or_says w f log None s x each = port_says w.timeout f log (port_on w.ports f) x each
  or_says w f log (Some reason) s x each = s

  frame_says : (w : Listens) (log : List KeyedFrame) (r : Result FrameOf Discard) → IfSome (result_ok r) FrameFits → FramesFit log → Says (of_read w log r)
  frame_says w log (Err why) x each = tt
  frame_says w log (Ok f) x each = or_says w f log (aside w.own f.ident) (aside_says w.own f.ident x.ident) x each

  pub line_fits : (w : Listens) (rec : Record) (past : List Record) → IsLogged rec → All IsLogged past → IsOnRecord names (line_on w rec past)
  line_fits w rec past h all =
      let x = frame_fits rec h in record {
        number = h.line;
        moment = h.moment;
        bus = h.bus;
        transfer = transfer_fits (frame_of rec) x;
        reason = frame_says w (frames w.own past) (read_of rec) (subst (λ (o : Option FrameOf). IfSome o FrameFits) (reads_each.frames rec) x) (frames_fit w.own past all);
      }
