-- What a session's fields say of a record is what the records of its key say.
use Rattle.std.proofs.Common.{◌≡◌, ◌∙◌, ℕ, ◌-◌, Bool, true, false, cond, not, ◌&&◌, ◌||◌, eqb, List, [], ◌∷◌, ◌++◌, Option, Some, None, option_map, unwrap_or, refl, sym, ap, subst, inl, inr}
use Rattle.std.specs.Prelude.{⊤}
use Rattle.std.proofs.lemmas.Bool.{cases_Bool, eq-eqb, and_left, and_right, and_from, and_parts, cond-true, cond-false, cond_both, not_from_true, not_from_false}
use Rattle.redundancy.specs.Force.{force, heard, last_on, last_heard, late}
use Rattle.redundancy.specs.Hear.{hear, answer_at}
use Rattle.redundancy.specs.Laws.{HeardIs}
use Rattle.redundancy.proofs.Forces.{heard_force, last_on_heard, force_kept}
use Rattle.redundancy.proofs.Hears.{hear_is, heard_is}
use Rattle.tail_frame.specs.Chains.{KeyRecord, differs, follows, tip, chain_bytes}
use Rattle.transfer_crc.specs.Crc.{crc_more, crc_of}
use Rattle.transfer_crc.proofs.Rows.{crc_more-append}
use Rattle.rx_session.specs.Session.{Part, Session, is_last}
use Rattle.rx_table.specs.Received.{Delivery, Run, Got, is_fresh, begins, alone, not_begun, received}
use Rattle.rx_table.specs.Stands.{last_tid, part_of, PartIs, Stands}
use Rattle.rx_table.proofs.Runs.{no_late_start}
use Rattle.log_explain.specs.Reasons.{silent, time_since, unheard, from, running, begun_reason, no_change, last_line, stray, ended, of_run, of_heard, of_key}
use Rattle.log_explain.specs.Told.{told_silence, told_unheard, told_from, told_change, told_taken, told_of_part, told_here, told_heard, told}
use Rattle.log_explain.specs.declared.reasons.reason.Change.{Change}
use Rattle.log_explain.specs.declared.reasons.reason.Reason.{Reason}
use Rattle.log_explain.specs.declared.reasons.reason.Reason.TheVariants.{Standby, Copy, Delivered, BadCrc, Taken, StrayNone, StrayTid, StrayToggle}
use Rattle.log_explain.specs.declared.reasons.reason.Silence.{Silence}

-- the bus of the last begun start frame is in force
abbrev pub InForce : Option ℕ → Option Run → Type 0
InForce f None = ⊤
InForce f (Some run) = f ≡ Some run.first.bus

in_force_on : (crc : List ℕ → ℕ) (timeout : ℕ) (r : KeyRecord) (past : List KeyRecord) (begun : Option Run) (ds : List Delivery) → InForce (force timeout past) begun → begins timeout r past ds ≡ false → InForce (force timeout (r ∷ past)) (not_begun crc timeout r past begun ds).begun
in_force_on crc timeout r past None ds i b = tt
in_force_on crc timeout r past (Some run) ds i b = force_kept timeout r past run.first.bus i (no_late_start timeout r past ds b)

pub run_bus : (crc : List ℕ → ℕ) (timeout : ℕ) (h : List KeyRecord) → InForce (force timeout h) (received crc timeout h).begun
run_bus crc timeout [] = tt
run_bus crc timeout (r ∷ past) =
    let g = received crc timeout past in
    cond_both (begins timeout r past g.delivered) (record { begun = Some (record { first = r; since = [] }); delivered = alone crc timeout r past g.delivered }) (not_begun crc timeout r past g.begun g.delivered) (λ (w : Got). InForce (force timeout (r ∷ past)) w.begun)
    (λ b. heard_force timeout r past (and_parts (heard timeout r past) (late timeout r past || is_fresh r.tid g.delivered) (and_parts r.start (heard timeout r past && (late timeout r past || is_fresh r.tid g.delivered)) b).1).0)
    (λ b. in_force_on crc timeout r past g.begun g.delivered (run_bus crc timeout past) b)

-- where a record is heard that begins nothing, it is on the bus of the last begun start frame
pub same_bus : (crc : List ℕ → ℕ) (timeout : ℕ) (r : KeyRecord) (past : List KeyRecord) (run : Run) → (received crc timeout past).begun ≡ Some run → begins timeout r past (received crc timeout past).delivered ≡ false → heard timeout r past ≡ true → r.bus ≡ run.first.bus
same_bus crc timeout r past run e b h =
    let at : force timeout past ≡ Some run.first.bus = subst (λ (o : Option Run). InForce (force timeout past) o) e (run_bus crc timeout past) in
    let kept : force timeout (r ∷ past) ≡ Some run.first.bus = force_kept timeout r past run.first.bus at (no_late_start timeout r past (received crc timeout past).delivered b) in
    let own : force timeout (r ∷ past) ≡ Some r.bus = heard_force timeout r past h in cc

-- the silence of the bus in force
module _ (timeout : ℕ) (r : KeyRecord) (past : List KeyRecord) (moment : ℕ) (m : moment ≡ unwrap_or (last_heard timeout past) 0) where
  since_is : (o : Option ℕ) → (t : ℕ) → o ≡ Some t → unwrap_or o 0 ≡ moment → time_since o r.moment ≡ r.moment - moment
  since_is None t e u = absurd cc
  since_is (Some x) t e u = ap (λ n. r.moment - n) u

  silent_is : (c : ℕ) → force timeout past ≡ Some c → told_silence moment r c ≡ silent r past c
  silent_is c f =
      let h : HeardIs (Some c) (last_heard timeout past) = subst (λ (o : Option ℕ). HeardIs o (last_heard timeout past)) f (heard_is timeout past) in
      let same : last_on c past ≡ last_heard timeout past = last_on_heard timeout past c f in
      let n : time_since (last_on c past) r.moment ≡ r.moment - moment =
      ap (λ (o : Option ℕ). time_since o r.moment) same ∙ since_is (last_heard timeout past) h.0 h.1 (sym m) in
      ap (λ (k : ℕ). let s : Silence = record { bus = c; micros = k } in s) (sym n)

  unheard_is : (o : Option ℕ) → o ≡ force timeout past → told_unheard moment r o ≡ unheard r past o
  unheard_is None e = refl
  unheard_is (Some c) e = ap Standby (silent_is c (sym e))

  from_is : (o : Option ℕ) → o ≡ force timeout past → told_from moment r o ≡ from r past o
  from_is None e = refl
  from_is (Some c) e = ap (λ (s : Silence). cond (eqb c r.bus) None (Some s)) (silent_is c (sym e))

running_is : (part : Option Part) (buffer : List ℕ) (begun : Option Run) → PartIs crc_of part buffer begun → option_map (λ (p : Part). p.first) part ≡ running begun
running_is part buffer None p = ap (option_map (λ (p : Part). p.first)) p
running_is part buffer (Some run) p =
    cond_both (tip run.first run.since).end None (Some run.first.line) (λ (o : Option ℕ). option_map (λ (p : Part). p.first) part ≡ o)
    (λ e. ap (option_map (λ (p : Part). p.first)) (p.closed e))
    (λ n. ap (option_map (λ (p : Part). p.first)) (p.runs n).0)

-- a toggle is the expected one where it isn't the last one
other_toggle : (a b : Bool) → differs b (not a) ≡ not (differs a b)
other_toggle true true = refl
other_toggle true false = refl
other_toggle false true = refl
other_toggle false false = refl

-- a record that the chain goes on with
taken_is : (r : KeyRecord) (run : Run) → follows run.first (tip run.first run.since) r ≡ true → told_taken r (part_of crc_of run) ≡ cond r.end (ended crc_of r run) (Taken run.first.line)
taken_is r run y =
    let a = run.first in
    let old = chain_bytes a run.since in
    let bytes_is : chain_bytes a (r ∷ run.since) ≡ old ++ r.body = cond-true (follows a (tip a run.since) r) (old ++ r.body) old y in
    let crc_is : crc_more (crc_of old) r.body ≡ crc_of (chain_bytes a (r ∷ run.since)) = sym (crc_more-append 0xFFFF old r.body) ∙ ap crc_of (sym bytes_is) in
    elim (cases_Bool r.end) as (λ _. told_taken r (part_of crc_of run) ≡ cond r.end (ended crc_of r run) (Taken run.first.line)) [
      | inl e ↦ cond-false (not r.end) _ _ (not_from_true r.end e)
          ∙ (ap (λ (n : ℕ). cond (eqb n 0) (Delivered a.line no_change) (BadCrc a.line)) crc_is
          ∙ sym (cond-true r.end (ended crc_of r run) (Taken run.first.line) e))
      | inr n ↦ cond-true (not r.end) _ _ (not_from_false r.end n) ∙ sym (cond-false r.end (ended crc_of r run) (Taken run.first.line) n)
    ]

-- a record that isn't a start, of a transfer-ID, where a reassembly runs whose bus it is on
module _ (r : KeyRecord) (run : Run) (n : r.start ≡ false) (bus : r.bus ≡ run.first.bus) (unclosed : (tip run.first run.since).end ≡ false) where
  abbrev a : KeyRecord
  a = run.first

  abbrev l : KeyRecord
  l = tip run.first run.since

  follows_is : follows a l r ≡ ((eqb r.tid a.tid) && differs l.toggle r.toggle)
  follows_is =
      let rest = (eqb r.tid a.tid) && differs l.toggle r.toggle in
      ap (λ (b : Bool). not b && (not r.start && ((eqb r.bus a.bus) && rest))) unclosed
      ∙ (ap (λ (b : Bool). not b && ((eqb r.bus a.bus) && rest)) n
      ∙ ap (λ (b : Bool). b && rest) (eq-eqb r.bus a.bus bus))

  stray_is : follows a l r ≡ false → of_run crc_of r (Some run) ≡ cond (eqb r.tid a.tid) (StrayToggle a.line) (StrayTid a.tid)
  stray_is n1 =
      cond-false (follows a l r) (cond r.end (ended crc_of r run) (Taken a.line)) (stray r run) n1
      ∙ cond-false l.end StrayNone (cond (eqb r.tid a.tid) (StrayToggle a.line) (StrayTid a.tid)) unclosed

  part_is : told_of_part r (Some (part_of crc_of run)) ≡ of_run crc_of r (Some run)
  part_is =
      let t = eqb r.tid a.tid in
      let taken = told_taken r (part_of crc_of run) in
      let toggled = cond (differs r.toggle (not l.toggle)) (StrayToggle a.line) taken in
      elim (cases_Bool t) as (λ _. cond (not t) (StrayTid a.tid) toggled ≡ of_run crc_of r (Some run)) [
        | inr n1 ↦
            cond-true (not t) (StrayTid a.tid) toggled (not_from_false t n1)
            ∙ sym (stray_is (follows_is ∙ and_left t (differs l.toggle r.toggle) n1) ∙ cond-false t (StrayToggle a.line) (StrayTid a.tid) n1)
        | inl y1 ↦
            cond-false (not t) (StrayTid a.tid) toggled (not_from_true t y1)
            ∙ (elim (cases_Bool (differs l.toggle r.toggle)) as (λ _. toggled ≡ of_run crc_of r (Some run)) [
              | inl other ↦
                  cond-false (differs r.toggle (not l.toggle)) (StrayToggle a.line) taken (other_toggle l.toggle r.toggle ∙ not_from_true (differs l.toggle r.toggle) other)
                  ∙ (let y : follows a l r ≡ true = follows_is ∙ and_from t (differs l.toggle r.toggle) y1 other in
                  taken_is r run y ∙ sym (cond-true (follows a l r) (cond r.end (ended crc_of r run) (Taken a.line)) (stray r run) y))
              | inr same ↦
                  cond-true (differs r.toggle (not l.toggle)) (StrayToggle a.line) taken (other_toggle l.toggle r.toggle ∙ not_from_false (differs l.toggle r.toggle) same)
                  ∙ sym (stray_is (follows_is ∙ and_right t (differs l.toggle r.toggle) same) ∙ cond-true t (StrayToggle a.line) (StrayTid a.tid) y1)
            ])
      ]

-- a record that isn't a start and is heard
of_part_is : (timeout : ℕ) (r : KeyRecord) (past : List KeyRecord) (part : Option Part) (buffer : List ℕ) (begun : Option Run) → (received crc_of timeout past).begun ≡ begun → begins timeout r past (received crc_of timeout past).delivered ≡ false → heard timeout r past ≡ true → r.start ≡ false → PartIs crc_of part buffer begun
    → told_of_part r part ≡ of_run crc_of r begun
of_part_is timeout r past part buffer None e b h n p = ap (told_of_part r) p
of_part_is timeout r past part buffer (Some run) e b h n p =
    let l = tip run.first run.since in
    elim (cases_Bool l.end) [
      | inl closed ↦
          ap (told_of_part r) (p.closed closed)
          ∙ sym (cond-false (follows run.first l r) (cond r.end (ended crc_of r run) (Taken run.first.line)) (stray r run) (and_left (not l.end) _ (not_from_true l.end closed))
          ∙ cond-true l.end StrayNone (cond (eqb r.tid run.first.tid) (StrayToggle run.first.line) (StrayTid run.first.tid)) closed)
      | inr unclosed ↦ ap (told_of_part r) (p.runs unclosed).0 ∙ part_is r run n (same_bus crc_of timeout r past run e b h) unclosed
    ]

twice_not : (b : Bool) → b ≡ not (not b)
twice_not true = refl
twice_not false = refl

last_fresh : (ds : List Delivery) (t : ℕ) → is_last (last_tid ds) t ≡ not (is_fresh t ds)
last_fresh [] t = refl
last_fresh (d ∷ ds) t = twice_not (eqb d.first.tid t)

-- what begins, where the record is a start that is heard
begins_is : (timeout : ℕ) (r : KeyRecord) (past : List KeyRecord) (ds : List Delivery) → r.start ≡ true → heard timeout r past ≡ true → begins timeout r past ds ≡ (late timeout r past || is_fresh r.tid ds)
begins_is timeout r past ds s h =
    ap (λ (b : Bool). b && (heard timeout r past && (late timeout r past || is_fresh r.tid ds))) s ∙ ap (λ (b : Bool). b && (late timeout r past || is_fresh r.tid ds)) h

not_either : (a b : Bool) → (not a && not b) ≡ not (a || b)
not_either true b = refl
not_either false b = refl

swapped : {A : Type 0} (b : Bool) (x y : A) → cond (not b) x y ≡ cond b y x
swapped true x y = refl
swapped false x y = refl

-- what stands of a session
module _ (timeout last : ℕ) (r : KeyRecord) (past : List KeyRecord) (s : Session) (st : Stands crc_of timeout past s) (e : last ≡ last_line (received crc_of timeout past).delivered) where
  abbrev got : Got
  got = received crc_of timeout past

  change_is : told_change s r ≡ record { over = running got.begun; from = from r past (force timeout past) }
  change_is =
      let over = running_is s.part s.buffer got.begun st.part in
      let bus = from_is timeout r past s.heard st.heard s.bus st.bus ∙ ap (from r past) st.bus in
      λ i. record { over = over i; from = bus i }

  start_is : heard timeout r past ≡ true → r.start ≡ true → told_here last s r (late timeout r past) ≡ of_heard crc_of timeout r past got
  start_is h y =
      let lt = late timeout r past in
      let fresh = is_fresh r.tid got.delivered in
      let b = begins timeout r past got.delivered in
      let begun = begun_reason r (record { over = running got.begun; from = from r past (force timeout past) }) in
      let test : (not lt && is_last s.last r.tid) ≡ not b =
      ap (λ (o : Option ℕ). not lt && is_last o r.tid) st.last
      ∙ (ap (λ (k : Bool). not lt && k) (last_fresh got.delivered r.tid) ∙ (not_either lt fresh ∙ ap not (sym (begins_is timeout r past got.delivered y h)))) in
      cond-false (not r.start) (told_of_part r s.part) (cond (not lt && is_last s.last r.tid) (Copy last) (begun_reason r (told_change s r))) (not_from_true r.start y)
      ∙ (ap (λ (k : Bool). cond k (Copy last) (begun_reason r (told_change s r))) test
      ∙ (ap (λ (c : Change). cond (not b) (Copy last) (begun_reason r c)) change_is
      ∙ (swapped b (Copy last) begun
      ∙ (ap (λ (n : ℕ). cond b begun (Copy n)) e
      ∙ ap (λ (x : Reason). cond b begun x) (sym (cond-true r.start (Copy (last_line got.delivered)) (of_run crc_of r got.begun) y))))))

  no_start_is : heard timeout r past ≡ true → r.start ≡ false → told_here last s r (late timeout r past) ≡ of_heard crc_of timeout r past got
  no_start_is h n =
      let b = begins timeout r past got.delivered in
      let n1 : b ≡ false = and_left r.start (heard timeout r past && (late timeout r past || is_fresh r.tid got.delivered)) n in
      cond-true (not r.start) (told_of_part r s.part) _ (not_from_false r.start n)
      ∙ (of_part_is timeout r past s.part s.buffer got.begun refl n1 h n st.part
      ∙ sym (cond-false b (begun_reason r (record { over = running got.begun; from = from r past (force timeout past) })) (cond r.start (Copy (last_line got.delivered)) (of_run crc_of r got.begun)) n1
      ∙ cond-false r.start (Copy (last_line got.delivered)) (of_run crc_of r got.begun) n))

  heard_reason_is : told_heard last s r (answer_at timeout r past) ≡ of_key crc_of timeout r past
  heard_reason_is =
      let h = heard timeout r past in
      elim (cases_Bool h) as (λ _. told_heard last s r (cond h (Some (late timeout r past)) None) ≡ cond h (of_heard crc_of timeout r past got) (unheard r past (force timeout past))) [
        | inl y ↦
            ap (told_heard last s r) (cond-true h (Some (late timeout r past)) None y)
            ∙ (elim (cases_Bool r.start) as (λ _. told_here last s r (late timeout r past) ≡ of_heard crc_of timeout r past got) [ inl t ↦ start_is y t | inr n ↦ no_start_is y n ]
            ∙ sym (cond-true h (of_heard crc_of timeout r past got) (unheard r past (force timeout past)) y))
        | inr n ↦
            ap (told_heard last s r) (cond-false h (Some (late timeout r past)) None n)
            ∙ (unheard_is timeout r past s.heard st.heard s.bus st.bus
            ∙ (ap (unheard r past) st.bus ∙ sym (cond-false h (of_heard crc_of timeout r past got) (unheard r past (force timeout past)) n)))
      ]

  -- what its fields say is what the records of its key say
  pub told_is : told timeout last s r ≡ of_key crc_of timeout r past
  told_is =
      let same : hear timeout s.bus s.heard r.bus r.moment r.start ≡ answer_at timeout r past =
      (λ i. hear timeout (st.bus i) (st.heard i) r.bus r.moment r.start) ∙ hear_is timeout r past in
      ap (told_heard last s r) same ∙ heard_reason_is
