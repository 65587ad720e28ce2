-- What a table heard, after a frame.
use Rattle.std.proofs.Common.{◌≡◌, ℕ, ◌≤◌, Bool, not, ◌&&◌, eqb, nat_lt, List, [], ◌∷◌, ◌++◌, zero, suc, length, Option, Some, None, refl, arith}
use Rattle.std.proofs.lemmas.Bool.{cond_both}
use Rattle.tail_frame.specs.Chains.{KeyRecord, differs}
use Rattle.transfer_crc.specs.Crc.{crc_more, crc_of}
use Rattle.redundancy.specs.Hear.{hear}
use Rattle.rx_session.specs.Session.{Session, Part, Outcome, is_last, begin, finish, take_in, go_on, on_heard, after_hear, advance}
use Rattle.rx_table.specs.Keys.{KeyedFrame, EachFrame}
use Rattle.rx_table.specs.Admitted.{has, key_of}
use Rattle.rx_table.specs.Ports.{Port, Entry, PortState, sources_of, open_session, advance_at, EachStands, TableStands}
use Rattle.rx_table.specs.Places.{opened, fed_entries, feed_nth}
use Rattle.rx_table.specs.Table.{EntriesHeard, HeardBy, TableHeard, subscribed}
use Rattle.rx_table.proofs.Moments.{heard_in_time}

pub entries-later : (m n : ℕ) (es : List Entry) → m ≤ n → EntriesHeard m es → EntriesHeard n es
entries-later m n [] le x = tt
entries-later m n (e ∷ es) le x = (let h = x.0 in omega arith, entries-later m n es le x.1)

pub heard-later : (m n : ℕ) (ps : List PortState) → m ≤ n → HeardBy m ps → HeardBy n ps
heard-later m n [] le x = tt
heard-later m n (p ∷ ps) le x = (entries-later m n p.entries le x.0, heard-later m n ps le x.1)

abbrev Same : ℕ → Session × Outcome → Type 0
Same m v = v.0.heard ≡ m

module _ (timeout : ℕ) (r : KeyRecord) where
  begin-heard : (s : Session) → Same s.heard (begin crc_more 0xFFFF timeout s r)
  begin-heard s = cond_both r.end _ _ (Same s.heard) (λ _. refl) (λ _. refl)

  finish-heard : (s : Session) (p : Part) → Same s.heard (finish crc_more 0xFFFF timeout s p r)
  finish-heard s p = cond_both (eqb (crc_more p.crc r.body) 0) _ _ (Same s.heard) (λ _. refl) (λ _. refl)

  take_in-heard : (s : Session) (p : Part) → Same s.heard (take_in crc_more 0xFFFF timeout s p r)
  take_in-heard s p = cond_both r.end _ _ (Same s.heard) (λ _. finish-heard s p) (λ _. refl)

  go_on-heard : (s : Session) (o : Option Part) → Same s.heard (go_on crc_more 0xFFFF timeout s o r)
  go_on-heard s None = refl
  go_on-heard s (Some p) = cond_both (eqb r.tid p.tid && not (differs r.toggle p.toggle)) _ _ (Same s.heard) (λ _. take_in-heard s p) (λ _. refl)

  on_heard-heard : (s : Session) (late : Bool) → Same s.heard (on_heard crc_more 0xFFFF timeout s late r)
  on_heard-heard s late =
      cond_both r.start _ _ (Same s.heard) (λ _. cond_both (not late && is_last s.last r.tid) _ _ (Same s.heard) (λ _. refl) (λ _. begin-heard s)) (λ _. go_on-heard s s.part)

  advance-heard : (s : Session) (o : Option Bool) → s.heard ≤ r.moment → (after_hear crc_more 0xFFFF timeout s o r).0.heard ≤ r.moment
  advance-heard s None le = le
  advance-heard s (Some late) le =
      let same = on_heard-heard (record { bus = Some r.bus; heard = r.moment; last = s.last; part = s.part; buffer = s.buffer }) late in omega arith

  session-heard : (s : Session) → s.heard ≤ r.moment → (advance crc_more 0xFFFF timeout s r).0.heard ≤ r.moment
  session-heard s le = advance-heard s (hear timeout s.bus s.heard r.bus r.moment r.start) le

  advance_at-heard : (source : ℕ) (es : List Entry) → EntriesHeard r.moment es → EntriesHeard r.moment (advance_at crc_more 0xFFFF timeout source r es)
  advance_at-heard source [] x = tt
  advance_at-heard source (e ∷ es) x = (
    cond_both (eqb e.source source) (record { source = e.source; session = (advance crc_more 0xFFFF timeout e.session r).0 }) e (λ (d : Entry). d.session.heard ≤ r.moment) (λ _. session-heard e.session x.0) (λ _. x.0),
    advance_at-heard source es x.1,
  )

  append-heard : (es : List Entry) (e : Entry) → EntriesHeard r.moment es → e.session.heard ≤ r.moment → EntriesHeard r.moment (es ++ e ∷ [])
  append-heard [] e x le = (le, tt)
  append-heard (d ∷ es) e x le = (x.0, append-heard es e x.1 le)

  fed-heard : (p : Port) (source : ℕ) (es : List Entry) → EntriesHeard r.moment es → EntriesHeard r.moment (fed_entries timeout p es source r)
  fed-heard p source es x =
      cond_both (has source (sources_of es)) (advance_at crc_more 0xFFFF timeout source r es) (opened timeout p es source r) (EntriesHeard r.moment)
      (λ _. advance_at-heard source es x)
      (λ _. cond_both (r.start && nat_lt (length es) p.sources) (es ++ record { source = source; session = (advance crc_more 0xFFFF timeout (open_session p.extent) r).0 } ∷ []) es (EntriesHeard r.moment)
      (λ _. append-heard es (record { source = source; session = (advance crc_more 0xFFFF timeout (open_session p.extent) r).0 }) x (session-heard (open_session p.extent) (omega arith)))
      (λ _. x))

  pub feed_nth-heard : (ps : List PortState) (i source : ℕ) → HeardBy r.moment ps → HeardBy r.moment (feed_nth timeout ps i source r)
  feed_nth-heard [] i source x = tt
  feed_nth-heard (p ∷ ps) zero source x = (fed-heard p.port source p.entries x.0, x.1)
  feed_nth-heard (p ∷ ps) (suc i) source x = (x.0, feed_nth-heard ps i source x.1)

module _ (timeout now : ℕ) (log : List KeyedFrame) (x : EachFrame (λ f. f.rec.moment ≤ now) log) where
  entries-in_time : (p : Port) (es : List Entry) → EachStands crc_of timeout p log es → EntriesHeard now es
  entries-in_time p [] st = tt
  entries-in_time p (e ∷ es) st = (heard_in_time crc_of timeout (key_of p.kind p.port e.source) log e.session now x st.0, entries-in_time p es st.2)

  ports-in_time : (ps : List PortState) → TableStands crc_of timeout log ps → HeardBy now ps
  ports-in_time [] st = tt
  ports-in_time (p ∷ ps) st = (entries-in_time p.port p.entries st.0.sessions, ports-in_time ps st.1)

pub table_in_time : TableHeard
table_in_time timeout now log ps x st = ports-in_time timeout now log x ps st.sessions

pub heard-subscribed : (now : ℕ) (ps : List PortState) (q : Port) → HeardBy now ps → HeardBy now (ps ++ subscribed q ∷ [])
heard-subscribed now [] q x = (tt, tt)
heard-subscribed now (p ∷ ps) q x = (x.0, heard-subscribed now ps q x.1)
