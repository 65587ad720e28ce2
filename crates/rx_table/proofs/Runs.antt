-- What begins, and the state after a record.
use Rattle.std.proofs.Common.{◌≡◌, ℕ, ◌⊎◌, true, false, not, ◌&&◌, ◌||◌, eqb, List, [], ◌∷◌, length, Some, ap, ◌∙◌, inl, inr}
use Rattle.std.proofs.lemmas.Bool.{eqb-true, and_parts, and_right, and_cases, or_cases, or_parts, and_left, cond-true, cond-false, both_ways, not-true, cases_Bool}
use Rattle.tail_frame.specs.Chains.{KeyRecord, differs, follows, chain_bytes, closes_at, without_crc}
use Rattle.redundancy.specs.Force.{heard, late, is_long_after, last_heard}
use Rattle.rx_table.specs.Received.{Delivery, Run, is_fresh, begins, alone, completed, not_begun, after, received}

-- what follows gives
pub follows_parts : (a l r : KeyRecord) → follows a l r ≡ true → record { open_end : l.end ≡ false; not_start : r.start ≡ false; bus : r.bus ≡ a.bus; tid : r.tid ≡ a.tid; toggle : differs l.toggle r.toggle ≡ true }
follows_parts a l r h =
    let p = and_parts (not l.end) (not r.start && ((eqb r.bus a.bus) && ((eqb r.tid a.tid) && differs l.toggle r.toggle))) h in
    let q = and_parts (not r.start) ((eqb r.bus a.bus) && ((eqb r.tid a.tid) && differs l.toggle r.toggle)) p.1 in
    let s = and_parts (eqb r.bus a.bus) ((eqb r.tid a.tid) && differs l.toggle r.toggle) q.1 in
    let t = and_parts (eqb r.tid a.tid) (differs l.toggle r.toggle) s.1 in
    record { open_end = not-true l.end p.0; not_start = not-true r.start q.0; bus = eqb-true r.bus a.bus s.0; tid = eqb-true r.tid a.tid t.0; toggle = t.1 }

pub begins_parts : (timeout : ℕ) (r : KeyRecord) (past : List KeyRecord) (ds : List Delivery) → begins timeout r past ds ≡ true → record { start : r.start ≡ true; heard : heard timeout r past ≡ true; fresh : (late timeout r past ≡ true) ⊎ (is_fresh r.tid ds ≡ true) }
begins_parts timeout r past ds b =
    let p = and_parts r.start (heard timeout r past && (late timeout r past || is_fresh r.tid ds)) b in
    let q = and_parts (heard timeout r past) (late timeout r past || is_fresh r.tid ds) p.1 in
    record { start = p.0; heard = q.0; fresh = or_cases (late timeout r past) (is_fresh r.tid ds) q.1 }

-- a heard start frame that doesn't begin isn't late, and has the last transfer-ID
pub not_begins : (timeout : ℕ) (r : KeyRecord) (past : List KeyRecord) (ds : List Delivery) → begins timeout r past ds ≡ false → r.start ≡ true → heard timeout r past ≡ true → record { late : late timeout r past ≡ false; stale : is_fresh r.tid ds ≡ false }
not_begins timeout r past ds b s h =
    let no = elim (and_cases r.start (heard timeout r past && (late timeout r past || is_fresh r.tid ds)) b) as (λ _. (late timeout r past || is_fresh r.tid ds) ≡ false) [
      | inl n ↦ absurd (both_ways r.start n s)
      | inr p ↦ elim (and_cases (heard timeout r past) (late timeout r past || is_fresh r.tid ds) p) [ inl n ↦ absurd (both_ways (heard timeout r past) n h) | inr q ↦ q ]
    ] in
    let both = or_parts (late timeout r past) (is_fresh r.tid ds) no in
    record { late = both.0; stale = both.1 }

-- what doesn't begin is no late start frame
pub no_late_start : (timeout : ℕ) (r : KeyRecord) (past : List KeyRecord) (ds : List Delivery) → begins timeout r past ds ≡ false → (r.start && late timeout r past) ≡ false
no_late_start timeout r past ds b =
    elim (cases_Bool r.start) [
      | inr n ↦ and_left r.start (late timeout r past) n
      | inl s ↦ and_right r.start (late timeout r past)
          (elim (cases_Bool (heard timeout r past)) [
            | inl h ↦ (not_begins timeout r past ds b s h).late
            | inr n ↦ and_left (heard timeout r past) (is_long_after timeout (last_heard timeout past) r.moment) n
          ])
    ]

pub begun_state : (crc : List ℕ → ℕ) (timeout : ℕ) (r : KeyRecord) (past : List KeyRecord) → begins timeout r past (received crc timeout past).delivered ≡ true → received crc timeout (r ∷ past) ≡ record { begun = Some (record { first = r; since = [] }); delivered = alone crc timeout r past (received crc timeout past).delivered }
begun_state crc timeout r past b =
    let g = received crc timeout past in
    cond-true (begins timeout r past g.delivered) (record { begun = Some (record { first = r; since = [] }); delivered = alone crc timeout r past g.delivered }) (not_begun crc timeout r past g.begun g.delivered) b

pub run_state : (crc : List ℕ → ℕ) (timeout : ℕ) (r : KeyRecord) (past : List KeyRecord) (run : Run) (ds : List Delivery) → received crc timeout past ≡ record { begun = Some run; delivered = ds } → begins timeout r past ds ≡ false → received crc timeout (r ∷ past) ≡ record { begun = Some (record { first = run.first; since = r ∷ run.since }); delivered = completed crc timeout r past run ds }
run_state crc timeout r past run ds e b =
    ap (after crc timeout r past) e
    ∙ cond-false (begins timeout r past ds) (record { begun = Some (record { first = r; since = [] }); delivered = alone crc timeout r past ds }) (not_begun crc timeout r past (Some run) ds) b

pub not_closing : (crc : List ℕ → ℕ) (timeout : ℕ) (r : KeyRecord) (past : List KeyRecord) (run : Run) (ds : List Delivery) → closes_at run.first run.since r ≡ false → completed crc timeout r past run ds ≡ ds
not_closing crc timeout r past run ds n =
    cond-false (closes_at run.first run.since r && eqb (crc (chain_bytes run.first (r ∷ run.since))) 0) (record { first = run.first; last = r; place = length past; content = without_crc (chain_bytes run.first (r ∷ run.since)) } ∷ ds) ds
    (and_left (closes_at run.first run.since r) (eqb (crc (chain_bytes run.first (r ∷ run.since))) 0) n)
