-- What no session answers leaves the sessions as they were.
use Rattle.std.proofs.Common.{◌≡◌, ℕ, zero, suc, Bool, true, false, cond, nat_lt, ◌&&◌, List, [], ◌∷◌, ◌++◌, length, refl, ap}
use Rattle.std.proofs.lemmas.Bool.{true≢false}
use Rattle.tail_frame.specs.Chains.{KeyRecord}
use Rattle.transfer_crc.specs.Crc.{crc_more}
use Rattle.rx_session.specs.Session.{Outcome, Ignored, advance}
use Rattle.rx_table.specs.Admitted.{has}
use Rattle.rx_table.specs.Ports.{Port, Entry, PortState, NoSession, OfSession, is_of_session, sources_of, open_session, advance_at, outcome_at}
use Rattle.rx_table.specs.Places.{fed_entries, port_answer, feed_nth, answer_nth}

-- by whether the source is known, the frame a start, and there is room
idle-cond : (known start room : Bool) (o first : Outcome) (fed more es : List Entry) → is_of_session (cond known (OfSession o) (cond start (cond room (OfSession first) NoSession) (OfSession Ignored))) ≡ false
    → cond known fed (cond (start && room) more es) ≡ es
idle-cond true start room o first fed more es h = absurd (true≢false h)
idle-cond false true true o first fed more es h = absurd (true≢false h)
idle-cond false true false o first fed more es h = refl
idle-cond false false room o first fed more es h = absurd (true≢false h)

idle-fed : (timeout : ℕ) (p : Port) (es : List Entry) (source : ℕ) (r : KeyRecord) → is_of_session (port_answer timeout p es source r) ≡ false → fed_entries timeout p es source r ≡ es
idle-fed timeout p es source r h =
    let new : Entry = record { source = source; session = (advance crc_more 0xFFFF timeout (open_session p.extent) r).0 } in
    idle-cond (has source (sources_of es)) r.start (nat_lt (length es) p.sources) (outcome_at crc_more 0xFFFF timeout source r es) (advance crc_more 0xFFFF timeout (open_session p.extent) r).1
    (advance_at crc_more 0xFFFF timeout source r es) (es ++ new ∷ []) es h

pub idle-nth : (timeout source : ℕ) (r : KeyRecord) (ps : List PortState) (i : ℕ) → is_of_session (answer_nth timeout ps i source r) ≡ false → feed_nth timeout ps i source r ≡ ps
idle-nth timeout source r [] i h = refl
idle-nth timeout source r (p ∷ ps) zero h = ap (λ (es : List Entry). (let s : PortState = record { port = p.port; entries = es } in s) ∷ ps) (idle-fed timeout p.port p.entries source r h)
idle-nth timeout source r (p ∷ ps) (suc i) h = ap (λ (qs : List PortState). p ∷ qs) (idle-nth timeout source r ps i h)
