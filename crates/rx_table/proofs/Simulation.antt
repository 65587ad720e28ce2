-- A session's step does what the records say
use Rattle.std.proofs.Common.{◌≡◌, ℕ, ◌^◌, ◌<◌, ◌+◌, ◌-◌, Bool, true, false, cond, not, ◌&&◌, ◌||◌, eqb, List, [], ◌∷◌, ◌++◌, length, take, Option, Some, None, unwrap_or, refl, sym, ap, ◌∙◌, subst, inl, inr, length-append, arith}
use Rattle.std.specs.Prelude.{⊤}
use Rattle.std.proofs.lemmas.Bool.{eqb-false, eq-eqb, ne_eqb, and_parts, and_from, and_left, and_right, and_cases, or_from, or_left, or_right, cond-true, cond-false, cond_both, both_ways, not_from_true, not_from_false, not-true, not-false, cases_Bool}
use Rattle.std.proofs.lemmas.Option.{none-some}
use Rattle.tail_frame.specs.Chains.{KeyRecord, differs, follows, tip, chain_bytes, closes_at, without_crc}
use Rattle.redundancy.specs.Force.{force, is_bus, heard, last_heard, late}
use Rattle.rx_table.specs.Received.{Delivery, Run, Got, is_fresh, begins, alone, not_begun, after, received}
use Rattle.cy_bits.specs.Put.{put_at}
use Rattle.redundancy.specs.Hear.{hear}
use Rattle.rx_session.specs.Session.{Part, Session, Outcome, Ignored, Held, BadCrc, Delivered, capped, is_last, begin, is_whole, take_in, go_on, on_heard, after_hear, accept}
use Rattle.rx_table.specs.Stands.{last_tid, Holds, part_of, PartIs, Stands, OutcomeIs}
use Rattle.rx_table.specs.Steps.{fails_at, is_bad, goes_on, is_held}
use Rattle.rx_table.specs.Laws.{Simulates, Advances}
use Rattle.redundancy.proofs.Forces.{heard_force, some_inj, force_kept}
use Rattle.rx_table.proofs.Runs.{no_late_start, follows_parts, run_state, not_closing}
use Rattle.rx_session.proofs.Buffers.{length_put}
use Rattle.rx_session.proofs.Agreement.{accept_ends}
use Rattle.rx_table.proofs.Buffers.{holds_put, holds_first, holds_front, put_capped, take_capped}
use Rattle.redundancy.proofs.Hears.{hear_is, unheard_force}

-- the bus of the last begun start frame is in force
abbrev InForce : Option ℕ → Option Run → Type 0
InForce f None = ⊤
InForce f (Some run) = f ≡ Some run.first.bus

in_force_on : (crc : List ℕ → ℕ) (timeout : ℕ) (r : KeyRecord) (past : List KeyRecord) (begun : Option Run) (ds : List Delivery) → InForce (force timeout past) begun → begins timeout r past ds ≡ false → InForce (force timeout (r ∷ past)) (not_begun crc timeout r past begun ds).begun
in_force_on crc timeout r past None ds i b = tt
in_force_on crc timeout r past (Some run) ds i b = force_kept timeout r past run.first.bus i (no_late_start timeout r past ds b)

run_bus : (crc : List ℕ → ℕ) (timeout : ℕ) (h : List KeyRecord) → InForce (force timeout h) (received crc timeout h).begun
run_bus crc timeout [] = tt
run_bus crc timeout (r ∷ past) =
    let g = received crc timeout past in
    cond_both (begins timeout r past g.delivered) (record { begun = Some (record { first = r; since = [] }); delivered = alone crc timeout r past g.delivered }) (not_begun crc timeout r past g.begun g.delivered) (λ (w : Got). InForce (force timeout (r ∷ past)) w.begun)
    (λ b. heard_force timeout r past (and_parts (heard timeout r past) (late timeout r past || is_fresh r.tid g.delivered) (and_parts r.start (heard timeout r past && (late timeout r past || is_fresh r.tid g.delivered)) b).1).0)
    (λ b. in_force_on crc timeout r past g.begun g.delivered (run_bus crc timeout past) b)

twice_not : (b : Bool) → b ≡ not (not b)
twice_not true = refl
twice_not false = refl

last_fresh : (ds : List Delivery) (t : ℕ) → is_last (last_tid ds) t ≡ not (is_fresh t ds)
last_fresh [] t = refl
last_fresh (d ∷ ds) t = twice_not (eqb d.first.tid t)

-- a frame that has the expected toggle differs from the last one
expected : (a b : Bool) → not (differs b (not a)) ≡ differs a b
expected true true = refl
expected true false = refl
expected false true = refl
expected false false = refl

-- r is not taken by the chain
abbrev NotTaken : KeyRecord → Option Run → Type 0
NotTaken r None = ⊤
NotTaken r (Some run) = follows run.first (tip run.first run.since) r ≡ false

not_going : (r : KeyRecord) (begun : Option Run) → NotTaken r begun → goes_on r begun ≡ false
not_going r None n = refl
not_going r (Some run) n = n

start_not_taken : (r : KeyRecord) (begun : Option Run) → r.start ≡ true → NotTaken r begun
start_not_taken r None s = tt
start_not_taken r (Some run) s =
    let a = run.first in
    let l = tip a run.since in
    and_right (not l.end) (not r.start && ((eqb r.bus a.bus) && ((eqb r.tid a.tid) && differs l.toggle r.toggle))) (and_left (not r.start) ((eqb r.bus a.bus) && ((eqb r.tid a.tid) && differs l.toggle r.toggle)) (not_from_true r.start s))

abbrev part_from : ℕ → ℕ → ℕ → Bool → ℕ → ℕ → Option Part
part_from tid first moment toggle taken sum = Some (record { tid = tid; toggle = toggle; first = first; moment = moment; taken = taken; crc = sum })

capped_twice : (a b : ℕ) → capped (capped a + b) ≡ capped (a + b)
capped_twice a b = omega arith

part_path : (tid first moment : ℕ) {a b : Bool} {m n c d : ℕ} → a ≡ b → m ≡ n → c ≡ d → part_from tid first moment a m c ≡ part_from tid first moment b n d
part_path tid first moment p q r = λ i. part_from tid first moment (p i) (q i) (r i)

module _ (crc_more : ℕ → List ℕ → ℕ) (crc_start timeout : ℕ) (crc_append : (c : ℕ) (a b : List ℕ) → crc_more c (a ++ b) ≡ crc_more (crc_more c a) b) where
  abbrev crc : List ℕ → ℕ
  crc = crc_more crc_start

  abbrev Goal : List KeyRecord → KeyRecord → ℕ → Session × Outcome → Type 0
  Goal h r extent x = Stands crc timeout (r ∷ h) x.0 × (length x.0.buffer ≡ extent) × OutcomeIs crc timeout extent r h x.1

  -- what is received, from its parts
  same_ds : (h : List KeyRecord) (begun : Option Run) (ds : List Delivery) → received crc timeout h ≡ record { begun = begun; delivered = ds } → (received crc timeout h).delivered ≡ ds
  same_ds h begun ds e = ap (λ (g : Got). g.delivered) e

  bad_is : (h : List KeyRecord) (r : KeyRecord) (begun : Option Run) (ds : List Delivery) → received crc timeout h ≡ record { begun = begun; delivered = ds } → (b : Bool) → (not (begins timeout r h ds) && fails_at crc timeout r begun) ≡ b → is_bad crc timeout r h ≡ b
  bad_is h r begun ds e b x = ap (λ (g : Got). not (begins timeout r h g.delivered) && fails_at crc timeout r g.begun) e ∙ x

  held_is : (h : List KeyRecord) (r : KeyRecord) (begun : Option Run) (ds : List Delivery) → received crc timeout h ≡ record { begun = begun; delivered = ds } → (b : Bool) → (not r.end && (begins timeout r h ds || goes_on r begun)) ≡ b → is_held crc timeout r h ≡ b
  held_is h r begun ds e b x = ap (λ (g : Got). not r.end && (begins timeout r h g.delivered || goes_on r g.begun)) e ∙ x

  -- what begins nothing and isn't taken isn't held
  not_held : (h : List KeyRecord) (r : KeyRecord) (begun : Option Run) (ds : List Delivery) → begins timeout r h ds ≡ false → NotTaken r begun → (not r.end && (begins timeout r h ds || goes_on r begun)) ≡ false
  not_held h r begun ds b n = and_right (not r.end) (begins timeout r h ds || goes_on r begun) (or_from (begins timeout r h ds) (goes_on r begun) b (not_going r begun n))

  idle_got : (h : List KeyRecord) (r : KeyRecord) (begun : Option Run) (ds : List Delivery) (part : Option Part) (buffer : List ℕ) → NotTaken r begun → PartIs crc part buffer begun → ((not_begun crc timeout r h begun ds).delivered ≡ ds) × (fails_at crc timeout r begun ≡ false) × PartIs crc part buffer (not_begun crc timeout r h begun ds).begun
  idle_got h r None ds part buffer n p = (refl, refl, p)
  idle_got h r (Some run) ds part buffer n p =
      let a = run.first in
      let l = tip a run.since in
      let no : closes_at a run.since r ≡ false = and_left (follows a l r) r.end n in
      let tip_is : tip a (r ∷ run.since) ≡ l = cond-false (follows a l r) r l n in
      let bytes_is : chain_bytes a (r ∷ run.since) ≡ chain_bytes a run.since = cond-false (follows a l r) (chain_bytes a run.since ++ r.body) (chain_bytes a run.since) n in (
        not_closing crc timeout r h run ds no,
        and_left (closes_at a run.since r) (not (eqb (crc (chain_bytes a (r ∷ run.since))) 0)) no,
        record {
          closed = λ c. p.closed (sym (ap (λ (t : KeyRecord). t.end) tip_is) ∙ c);
          runs = λ o.
              let q = p.runs (sym (ap (λ (t : KeyRecord). t.end) tip_is) ∙ o) in (
                q.0 ∙ ap (λ (t : KeyRecord). Some (record { tid = a.tid; toggle = not t.toggle; first = a.line; moment = a.moment; taken = capped (length (chain_bytes a run.since)); crc = crc (chain_bytes a run.since) })) (sym tip_is)
                    ∙ ap (λ (bs : List ℕ). Some (record { tid = a.tid; toggle = not (tip a (r ∷ run.since)).toggle; first = a.line; moment = a.moment; taken = capped (length bs); crc = crc bs })) (sym bytes_is),
                subst (Holds buffer) (sym bytes_is) q.1,
              );
        },
      )

  -- a record that begins nothing and isn't taken
  idle : (h : List KeyRecord) (r : KeyRecord) (begun : Option Run) (ds : List Delivery) (s : Session) → received crc timeout h ≡ record { begun = begun; delivered = ds } → begins timeout r h ds ≡ false → NotTaken r begun
      → s.bus ≡ force timeout (r ∷ h) → s.heard ≡ unwrap_or (last_heard timeout (r ∷ h)) 0 → s.last ≡ last_tid ds → PartIs crc s.part s.buffer begun
      → Goal h r (length s.buffer) (s, Ignored)
  idle h r begun ds s e b n bus hd last part =
      let got = idle_got h r begun ds s.part s.buffer n part in
      let now : received crc timeout (r ∷ h) ≡ not_begun crc timeout r h begun ds =
      ap (after crc timeout r h) e ∙ cond-false (begins timeout r h ds) (record { begun = Some (record { first = r; since = [] }); delivered = alone crc timeout r h ds }) (not_begun crc timeout r h begun ds) b in (
        record {
          bus = bus;
          heard = hd;
          last = last ∙ ap last_tid (sym (ap (λ (g : Got). g.delivered) now ∙ got.0));
          part = subst (λ (g : Got). PartIs crc s.part s.buffer g.begun) (sym now) got.2;
        },
        refl,
        (ap (λ (g : Got). g.delivered) now ∙ got.0 ∙ sym (same_ds h begun ds e), bad_is h r begun ds e false (and_right (not (begins timeout r h ds)) (fails_at crc timeout r begun) got.1), held_is h r begun ds e false (not_held h r begun ds b n)),
      )

  no_begin : (h : List KeyRecord) (r : KeyRecord) (ds : List Delivery) → r.start ≡ false → begins timeout r h ds ≡ false
  no_begin h r ds n = and_left r.start (heard timeout r h && (late timeout r h || is_fresh r.tid ds)) n

  -- a start frame that begins
  begin_sim : (h : List KeyRecord) (r : KeyRecord) (begun : Option Run) (ds : List Delivery) (s : Session) → received crc timeout h ≡ record { begun = begun; delivered = ds } → begins timeout r h ds ≡ true
      → s.bus ≡ force timeout (r ∷ h) → s.heard ≡ unwrap_or (last_heard timeout (r ∷ h)) 0 → s.last ≡ last_tid ds
      → Goal h r (length s.buffer) (begin crc_more crc_start timeout s r)
  begin_sim h r begun ds s e b bus hd last =
      let put = put_at s.buffer 0 r.body in
      let d : Delivery = record { first = r; last = r; place = length h; content = r.body } in
      let now : received crc timeout (r ∷ h) ≡ record { begun = Some (record { first = r; since = [] }); delivered = alone crc timeout r h ds } =
      ap (after crc timeout r h) e ∙ cond-true (begins timeout r h ds) (record { begun = Some (record { first = r; since = [] }); delivered = alone crc timeout r h ds }) (not_begun crc timeout r h begun ds) b in
      let fine = bad_is h r begun ds e false (and_left (not (begins timeout r h ds)) (fails_at crc timeout r begun) (not_from_true (begins timeout r h ds) b)) in
      let first = holds_first s.buffer r.body in
      cond_both r.end
      (record { bus = s.bus; heard = s.heard; last = Some r.tid; part = None; buffer = put }, Delivered r.bus r.priority r.tid r.line r.line r.moment (take (length r.body) put))
      (record { bus = s.bus; heard = s.heard; last = s.last; part = Some (record { tid = r.tid; toggle = not r.toggle; first = r.line; moment = r.moment; taken = capped (length r.body); crc = crc_more crc_start r.body }); buffer = put }, Held)
      (Goal h r (length s.buffer))
      (λ y.
      let got = now ∙ ap (λ es. record { begun = Some (record { first = r; since = [] }); delivered = es }) (cond-true r.end (d ∷ ds) ds y) in (
        record {
          bus = bus;
          heard = hd;
          last = ap last_tid (sym (ap (λ (g : Got). g.delivered) got));
          part = subst (λ (g : Got). PartIs crc None put g.begun) (sym got) (record { closed = λ _. refl; runs = λ n. absurd (both_ways r.end n y) });
        },
        length_put s.buffer 0 r.body,
        (d, ap (λ (g : Got). g.delivered) got ∙ ap (λ es. d ∷ es) (sym (same_ds h begun ds e)), fine, refl, refl, refl, refl, refl, refl, sym first ∙ ap (λ k. take k r.body) (length_put s.buffer 0 r.body)),
      ))
      (λ n.
      let got = now ∙ ap (λ es. record { begun = Some (record { first = r; since = [] }); delivered = es }) (cond-false r.end (d ∷ ds) ds n) in (
        record {
          bus = bus;
          heard = hd;
          last = last ∙ ap last_tid (sym (ap (λ (g : Got). g.delivered) got));
          part = subst (λ (g : Got). PartIs crc (Some (record { tid = r.tid; toggle = not r.toggle; first = r.line; moment = r.moment; taken = capped (length r.body); crc = crc_more crc_start r.body })) put g.begun) (sym got) (record { closed = λ y. absurd (both_ways r.end n y); runs = λ _. (refl, first) });
        },
        length_put s.buffer 0 r.body,
        (
          ap (λ (g : Got). g.delivered) got ∙ sym (same_ds h begun ds e),
          fine,
          held_is h r begun ds e true (and_from (not r.end) (begins timeout r h ds || goes_on r begun) (not_from_false r.end n) (or_left (begins timeout r h ds) (goes_on r begun) b)),
        ),
      ))

  -- a frame that the chain takes
  take_sim : (h : List KeyRecord) (r : KeyRecord) (run : Run) (ds : List Delivery) (s : Session) → length s.buffer + 2 < 2 ^ 64 → received crc timeout h ≡ record { begun = Some run; delivered = ds } → begins timeout r h ds ≡ false → follows run.first (tip run.first run.since) r ≡ true
      → s.bus ≡ force timeout (r ∷ h) → s.heard ≡ unwrap_or (last_heard timeout (r ∷ h)) 0 → s.last ≡ last_tid ds → Holds s.buffer (chain_bytes run.first run.since)
      → Goal h r (length s.buffer) (take_in crc_more crc_start timeout s (part_of crc run) r)
  take_sim h r run ds s small e b y bus hd last holds =
      let a = run.first in
      let l = tip a run.since in
      let old = chain_bytes a run.since in
      let new = chain_bytes a (r ∷ run.since) in
      let both = old ++ r.body in
      let put = put_at s.buffer (capped (length old)) r.body in
      let bytes_is : new ≡ both = cond-true (follows a l r) (old ++ r.body) old y in
      let tip_is : tip a (r ∷ run.since) ≡ r = cond-true (follows a l r) r l y in
      let crc_is : crc_more (crc old) r.body ≡ crc new = sym (crc_append crc_start old r.body) ∙ ap crc (sym bytes_is) in
      let now = run_state crc timeout r h run ds e b in
      let held : Holds put both = subst (λ b. Holds b both) (sym (put_capped s.buffer (length old) r.body small)) (holds_put s.buffer old r.body holds) in
      let quiet = not_from_false (begins timeout r h ds) b in
      let d : Delivery = record { first = a; last = r; place = length h; content = without_crc new } in
      let run' : Run = record { first = a; since = r ∷ run.since } in
      let test = closes_at a run.since r && eqb (crc new) 0 in
      let in_step : List Delivery → Got = λ es. record { begun = Some run'; delivered = es } in
      cond_both r.end
      (cond (eqb (crc_more (crc old) r.body) 0)
      (record { bus = s.bus; heard = s.heard; last = Some a.tid; part = None; buffer = put }, Delivered r.bus r.priority a.tid a.line r.line a.moment (take (capped (capped (length old) + length r.body) - 2) put))
      (record { bus = s.bus; heard = s.heard; last = s.last; part = None; buffer = put }, BadCrc))
      (record { bus = s.bus; heard = s.heard; last = s.last; part = Some (record { tid = a.tid; toggle = not r.toggle; first = a.line; moment = a.moment; taken = capped (capped (length old) + length r.body); crc = crc_more (crc old) r.body }); buffer = put }, Held)
      (Goal h r (length s.buffer))
      (λ end.
      let closes = and_from (follows a l r) r.end y end in
      let closed_part : PartIs crc None put (Some run') = record { closed = λ _. refl; runs = λ n. absurd (both_ways r.end (sym (ap (λ (t : KeyRecord). t.end) tip_is) ∙ n) end) } in
      cond_both (eqb (crc_more (crc old) r.body) 0)
      (record { bus = s.bus; heard = s.heard; last = Some a.tid; part = None; buffer = put }, Delivered r.bus r.priority a.tid a.line r.line a.moment (take (capped (capped (length old) + length r.body) - 2) put))
      (record { bus = s.bus; heard = s.heard; last = s.last; part = None; buffer = put }, BadCrc)
      (Goal h r (length s.buffer))
      (λ z.
      let fit : eqb (crc new) 0 ≡ true = subst (λ k. eqb k 0 ≡ true) crc_is z in
      let got = now ∙ ap in_step (cond-true test (d ∷ ds) ds (and_from (closes_at a run.since r) (eqb (crc new) 0) closes fit)) in
      let size : length old + length r.body ≡ length both = sym (length-append old r.body) in (
        record {
          bus = bus;
          heard = hd;
          last = ap last_tid (sym (ap (λ (g : Got). g.delivered) got));
          part = subst (λ (g : Got). PartIs crc None put g.begun) (sym got) closed_part;
        },
        length_put s.buffer (capped (length old)) r.body,
        (
          d,
          ap (λ (g : Got). g.delivered) got ∙ ap (λ es. d ∷ es) (sym (same_ds h (Some run) ds e)),
          bad_is h r (Some run) ds e false (and_right (not (begins timeout r h ds)) (fails_at crc timeout r (Some run)) (and_right (closes_at a run.since r) (not (eqb (crc new) 0)) (not_from_true (eqb (crc new) 0) fit))),
          (follows_parts a l r y).bus,
          refl,
          refl,
          refl,
          refl,
          refl,
          ap (λ k. take (k - 2) put) (capped_twice (length old) (length r.body)) ∙ (take_capped put (length old + length r.body) (let long = length_put s.buffer (capped (length old)) r.body in omega arith)
              ∙ (ap (λ k. take (k - 2) put) size ∙ (holds_front put both (length both - 2) held (omega arith)
              ∙ (ap (λ k. take k (without_crc both)) (length_put s.buffer (capped (length old)) r.body) ∙ ap (λ bs. take (length s.buffer) (without_crc bs)) (sym bytes_is))))),
        ),
      ))
      (λ z.
      let unfit : eqb (crc new) 0 ≡ false = subst (λ k. eqb k 0 ≡ false) crc_is z in
      let got = now ∙ ap in_step (cond-false test (d ∷ ds) ds (and_right (closes_at a run.since r) (eqb (crc new) 0) unfit)) in (
        record {
          bus = bus;
          heard = hd;
          last = last ∙ ap last_tid (sym (ap (λ (g : Got). g.delivered) got));
          part = subst (λ (g : Got). PartIs crc None put g.begun) (sym got) closed_part;
        },
        length_put s.buffer (capped (length old)) r.body,
        (
          ap (λ (g : Got). g.delivered) got ∙ sym (same_ds h (Some run) ds e),
          bad_is h r (Some run) ds e true (and_from (not (begins timeout r h ds)) (fails_at crc timeout r (Some run)) quiet (and_from (closes_at a run.since r) (not (eqb (crc new) 0)) closes (not_from_false (eqb (crc new) 0) unfit))),
        ),
      )))
      (λ open_end.
      let no = and_right (follows a l r) r.end open_end in
      let got = now ∙ ap in_step (not_closing crc timeout r h run ds no) in (
        record {
          bus = bus;
          heard = hd;
          last = last ∙ ap last_tid (sym (ap (λ (g : Got). g.delivered) got));
          part = subst (λ (g : Got). PartIs crc (Some (record { tid = a.tid; toggle = not r.toggle; first = a.line; moment = a.moment; taken = capped (capped (length old) + length r.body); crc = crc_more (crc old) r.body })) put g.begun) (sym got)
              (record {
                closed = λ c. absurd (both_ways r.end open_end (sym (ap (λ (t : KeyRecord). t.end) tip_is) ∙ c));
                runs = λ _. (part_path a.tid a.line a.moment (ap (λ (t : KeyRecord). not t.toggle) (sym tip_is)) (capped_twice (length old) (length r.body) ∙ ap capped (sym (length-append old r.body) ∙ ap length (sym bytes_is))) crc_is, subst (Holds put) (sym bytes_is) held);
              });
        },
        length_put s.buffer (capped (length old)) r.body,
        (
          ap (λ (g : Got). g.delivered) got ∙ sym (same_ds h (Some run) ds e),
          bad_is h r (Some run) ds e false (and_right (not (begins timeout r h ds)) (fails_at crc timeout r (Some run)) (and_left (closes_at a run.since r) (not (eqb (crc new) 0)) no)),
          held_is h r (Some run) ds e true (and_from (not r.end) (begins timeout r h ds || goes_on r (Some run)) (not_from_false r.end open_end) (or_right (begins timeout r h ds) (goes_on r (Some run)) y)),
        ),
      ))

  -- a heard frame that isn't a start
  go_on_sim : (h : List KeyRecord) (r : KeyRecord) (begun : Option Run) (ds : List Delivery) (s : Session) → length s.buffer + 2 < 2 ^ 64 → received crc timeout h ≡ record { begun = begun; delivered = ds } → r.start ≡ false → InForce (force timeout h) begun → force timeout (r ∷ h) ≡ Some r.bus
      → s.bus ≡ force timeout (r ∷ h) → s.heard ≡ unwrap_or (last_heard timeout (r ∷ h)) 0 → s.last ≡ last_tid ds → PartIs crc s.part s.buffer begun
      → Goal h r (length s.buffer) (go_on crc_more crc_start timeout s s.part r)
  go_on_sim h r None ds s small e n inf f bus hd last part =
      subst (λ q. Goal h r (length s.buffer) (go_on crc_more crc_start timeout s q r)) (sym part) (idle h r None ds s e (no_begin h r ds n) tt bus hd last part)
  go_on_sim h r (Some run) ds s small e n inf f bus hd last part =
      let a = run.first in
      let l = tip a run.since in
      let b = no_begin h r ds n in
      let bus_is = some_inj r.bus a.bus (sym f ∙ force_kept timeout r h a.bus inf (and_left r.start (late timeout r h) n)) in
      elim (cases_Bool l.end) [
        | inl y ↦
            subst (λ q. Goal h r (length s.buffer) (go_on crc_more crc_start timeout s q r)) (sym (part.closed y))
            (idle h r (Some run) ds s e b (and_left (not l.end) (not r.start && ((eqb r.bus a.bus) && ((eqb r.tid a.tid) && differs l.toggle r.toggle))) (not_from_true l.end y)) bus hd last part)
        | inr o ↦
            let q = part.runs o in
            subst (λ w. Goal h r (length s.buffer) (go_on crc_more crc_start timeout s w r)) (sym q.0)
            (cond_both (eqb r.tid a.tid && not (differs r.toggle (not l.toggle))) (take_in crc_more crc_start timeout s (part_of crc run) r) (s, Ignored) (Goal h r (length s.buffer))
            (λ y.
            let t = and_parts (eqb r.tid a.tid) (not (differs r.toggle (not l.toggle))) y in
            let fits =
            and_from (not l.end) (not r.start && ((eqb r.bus a.bus) && ((eqb r.tid a.tid) && differs l.toggle r.toggle))) (not_from_false l.end o)
            (and_from (not r.start) ((eqb r.bus a.bus) && ((eqb r.tid a.tid) && differs l.toggle r.toggle)) (not_from_false r.start n)
            (and_from (eqb r.bus a.bus) ((eqb r.tid a.tid) && differs l.toggle r.toggle) (eq-eqb r.bus a.bus bus_is)
            (and_from (eqb r.tid a.tid) (differs l.toggle r.toggle) t.0 (sym (expected l.toggle r.toggle) ∙ t.1)))) in
            take_sim h r run ds s small e b fits bus hd last q.1)
            (λ z.
            idle h r (Some run) ds s e b
            (and_right (not l.end) (not r.start && ((eqb r.bus a.bus) && ((eqb r.tid a.tid) && differs l.toggle r.toggle)))
            (and_right (not r.start) ((eqb r.bus a.bus) && ((eqb r.tid a.tid) && differs l.toggle r.toggle))
            (and_right (eqb r.bus a.bus) ((eqb r.tid a.tid) && differs l.toggle r.toggle)
            (subst (λ w. (eqb r.tid a.tid && w) ≡ false) (expected l.toggle r.toggle) z))))
            bus hd last part))
      ]

  heard_sim : (h : List KeyRecord) (r : KeyRecord) (begun : Option Run) (ds : List Delivery) (s : Session) → length s.buffer + 2 < 2 ^ 64 → received crc timeout h ≡ record { begun = begun; delivered = ds } → heard timeout r h ≡ true → InForce (force timeout h) begun
      → s.bus ≡ force timeout (r ∷ h) → s.heard ≡ unwrap_or (last_heard timeout (r ∷ h)) 0 → s.last ≡ last_tid ds → PartIs crc s.part s.buffer begun
      → Goal h r (length s.buffer) (on_heard crc_more crc_start timeout s (late timeout r h) r)
  heard_sim h r begun ds s small e y inf bus hd last part =
      let old = late timeout r h in
      let stale : is_last s.last r.tid ≡ not (is_fresh r.tid ds) = ap (λ o. is_last o r.tid) last ∙ last_fresh ds r.tid in
      cond_both r.start (cond (not old && is_last s.last r.tid) (s, Ignored) (begin crc_more crc_start timeout s r)) (go_on crc_more crc_start timeout s s.part r) (Goal h r (length s.buffer))
      (λ st.
      cond_both (not old && is_last s.last r.tid) (s, Ignored) (begin crc_more crc_start timeout s r) (Goal h r (length s.buffer))
      (λ i.
      let p = and_parts (not old) (is_last s.last r.tid) i in
      idle h r begun ds s e
      (and_right r.start (heard timeout r h && (old || is_fresh r.tid ds)) (and_right (heard timeout r h) (old || is_fresh r.tid ds) (or_from old (is_fresh r.tid ds) (not-true old p.0) (not-true (is_fresh r.tid ds) (sym stale ∙ p.1)))))
      (start_not_taken r begun st) bus hd last part)
      (λ i.
      begin_sim h r begun ds s e
      (and_from r.start (heard timeout r h && (old || is_fresh r.tid ds)) st (and_from (heard timeout r h) (old || is_fresh r.tid ds) y
      (elim (and_cases (not old) (is_last s.last r.tid) i) [
        | inl n ↦ or_left old (is_fresh r.tid ds) (not-false old n)
        | inr n ↦ or_right old (is_fresh r.tid ds) (not-false (is_fresh r.tid ds) (sym stale ∙ n))
      ])))
      bus hd last))
      (λ n. go_on_sim h r begun ds s small e n inf (heard_force timeout r h y) bus hd last part)

  not_heard_taken : (h : List KeyRecord) (r : KeyRecord) (begun : Option Run) → heard timeout r h ≡ false → InForce (force timeout h) begun → NotTaken r begun
  not_heard_taken h r None n i = tt
  not_heard_taken h r (Some run) n i =
      let a = run.first in
      let l = tip a run.since in
      let other : eqb a.bus r.bus ≡ false = sym (ap (λ f. is_bus f r.bus) (unheard_force timeout r h (force timeout h) n ∙ i)) ∙ n in
      and_right (not l.end) (not r.start && ((eqb r.bus a.bus) && ((eqb r.tid a.tid) && differs l.toggle r.toggle)))
      (and_right (not r.start) ((eqb r.bus a.bus) && ((eqb r.tid a.tid) && differs l.toggle r.toggle))
      (and_left (eqb r.bus a.bus) ((eqb r.tid a.tid) && differs l.toggle r.toggle) (ne_eqb r.bus a.bus (λ q. eqb-false a.bus r.bus other (sym q)))))

  step : (h : List KeyRecord) (r : KeyRecord) (s : Session) → length s.buffer + 2 < 2 ^ 64 → Stands crc timeout h s → Goal h r (length s.buffer) (accept crc_more crc_start timeout s r)
  step h r s small st =
      let g = received crc timeout h in
      let answer : hear timeout s.bus s.heard r.bus r.moment r.start ≡ cond (heard timeout r h) (Some (late timeout r h)) None =
      ap (λ f. hear timeout f s.heard r.bus r.moment r.start) st.bus ∙ (ap (λ t. hear timeout (force timeout h) t r.bus r.moment r.start) st.heard ∙ hear_is timeout r h) in
      subst (λ o. Goal h r (length s.buffer) (after_hear crc_more crc_start timeout s o r)) (sym answer)
      (cond_both (heard timeout r h) (Some (late timeout r h)) None (λ o. Goal h r (length s.buffer) (after_hear crc_more crc_start timeout s o r))
      (λ y.
      heard_sim h r g.begun g.delivered (record { bus = Some r.bus; heard = r.moment; last = s.last; part = s.part; buffer = s.buffer }) small refl y (run_bus crc timeout h)
      (sym (heard_force timeout r h y)) (sym (ap (λ o. unwrap_or o 0) (cond-true (heard timeout r h) (Some r.moment) (last_heard timeout h) y))) st.last st.part)
      (λ n.
      idle h r g.begun g.delivered s refl
      (and_right r.start (heard timeout r h && (late timeout r h || is_fresh r.tid g.delivered)) (and_left (heard timeout r h) (late timeout r h || is_fresh r.tid g.delivered) n))
      (not_heard_taken h r g.begun n (run_bus crc timeout h))
      (st.bus ∙ sym (unheard_force timeout r h (force timeout h) n))
      (st.heard ∙ ap (λ o. unwrap_or o 0) (sym (cond-false (heard timeout r h) (Some r.moment) (last_heard timeout h) n)))
      st.last st.part))

pub simulates : Simulates
simulates crc_more crc_start timeout crc_append h r s small st = step crc_more crc_start timeout crc_append h r s small st

-- where no reassembly runs, a session stands for the same records with any buffer
pub idle_part : (crc : List ℕ → ℕ) (part : Option Part) (a b : List ℕ) (begun : Option Run) → part ≡ None → PartIs crc part a begun → PartIs crc part b begun
idle_part crc part a b None none p = p
idle_part crc part a b (Some run) none p = record { closed = p.closed; runs = λ o. absurd (none-some (part_of crc run) (sym none ∙ (p.runs o).0)) }

pub advances : Advances
advances crc_more crc_start timeout crc_append h r s small st =
    let after = accept crc_more crc_start timeout s r in
    let goal = simulates crc_more crc_start timeout crc_append h r s small st in
    let ends = accept_ends crc_more crc_start timeout s r in
    let whole = is_whole r after.1 in (
      record {
        bus = goal.0.bus;
        heard = goal.0.heard;
        last = goal.0.last;
        part = cond_both whole s.buffer after.0.buffer (λ (b : List ℕ). PartIs (crc_more crc_start) after.0.part b (received (crc_more crc_start) timeout (r ∷ h)).begun)
            (λ w. idle_part (crc_more crc_start) after.0.part after.0.buffer s.buffer (received (crc_more crc_start) timeout (r ∷ h)).begun (ends.whole w) goal.0.part)
            (λ _. goal.0.part);
      },
      cond_both whole s.buffer after.0.buffer (λ (b : List ℕ). length b ≡ length s.buffer) (λ _. refl) (λ _. ends.size),
      goal.2,
    )
