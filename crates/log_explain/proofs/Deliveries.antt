-- What is told as delivered, and as a bad CRC.
use Rattle.std.proofs.Common.{◌≡◌, ◌∙◌, ℕ, Bool, true, false, cond, not, ◌&&◌, eqb, List, ◌∷◌, length, Option, Some, None, refl, sym, ap, subst, inl, inr}
use Rattle.std.proofs.lemmas.Bool.{cases_Bool, and_left, and_right, cond-true, cond-false, not_from_true, eq-eqb, both_ways}
use Rattle.redundancy.specs.Force.{force, heard, is_bus}
use Rattle.redundancy.proofs.Hears.{unheard_force}
use Rattle.tail_frame.specs.Chains.{KeyRecord, chain_bytes, closes_at, follows, tip, without_crc}
use Rattle.rx_table.specs.Received.{Delivery, Run, Got, begins, received}
use Rattle.rx_table.specs.Steps.{delivery_at, fails_at, is_bad, of_run as delivery_of}
use Rattle.rx_table.proofs.Runs.{follows_parts}
use Rattle.log_explain.specs.ReasonLaws.{Tells, delivered_at, is_badcrc, lines_of}
use Rattle.log_explain.specs.Reasons.{begun_reason, ended, from, last_line, of_heard, of_key, of_run, running, stray, unheard}
use Rattle.log_explain.specs.declared.reasons.reason.Change.{Change}
use Rattle.log_explain.specs.declared.reasons.reason.Reason.{Reason}
use Rattle.log_explain.specs.declared.reasons.reason.Reason.TheVariants.{BadCrc, Copy, Delivered, StrayNone, StrayTid, StrayToggle, Taken}
use Rattle.log_explain.specs.declared.reasons.reason.Reason.TheVariants as reason
use Rattle.log_explain.proofs.Sessions.{InForce, run_bus}

-- a reason says what ends at a record
record Says (line : ℕ) (reason : Reason) (d : Option Delivery) (bad : Bool) : Type 0 where
  delivery : delivered_at line reason ≡ lines_of d
  fails : is_badcrc reason ≡ bad

-- it ends nothing
abbrev Ends : ℕ → Reason → Type 0
Ends line reason = Says line reason None false

says_unheard : (line : ℕ) (r : KeyRecord) (past : List KeyRecord) (o : Option ℕ) → Ends line (unheard r past o)
says_unheard line r past None = record { delivery = refl; fails = refl }
says_unheard line r past (Some bus) = record { delivery = refl; fails = refl }

says_stray : (line : ℕ) (r : KeyRecord) (run : Run) → Ends line (stray r run)
says_stray line r run =
    both (tip run.first run.since).end StrayNone _ (record { delivery = refl; fails = refl })
    (both (eqb r.tid run.first.tid) (StrayToggle run.first.line) (StrayTid run.first.tid) (record { delivery = refl; fails = refl }) (record { delivery = refl; fails = refl }))
  where
    both : (b : Bool) (x y : Reason) → Ends line x → Ends line y → Ends line (cond b x y)
    both true x y p q = p
    both false x y p q = q

-- no chain goes on with r
abbrev Apart : KeyRecord → Option Run → Type 0
Apart r None = Unit {0}
Apart r (Some run) = follows run.first (tip run.first run.since) r ≡ false

module _ (crc : List ℕ → ℕ) (timeout : ℕ) (r : KeyRecord) (past : List KeyRecord) where
  abbrev got : Got
  got = received crc timeout past

  abbrev b : Bool
  b = begins timeout r past got.delivered

  apart_delivery : (o : Option Run) → Apart r o → delivery_of crc timeout r past o ≡ None
  apart_delivery None n = refl
  apart_delivery (Some run) n =
      let fits = eqb (crc (chain_bytes run.first (r ∷ run.since))) 0 in
      cond-false (closes_at run.first run.since r && fits) (Some (record { first = run.first; last = r; place = length past; content = without_crc (chain_bytes run.first (r ∷ run.since)) })) None
      (and_left (closes_at run.first run.since r) fits (and_left (follows run.first (tip run.first run.since) r) r.end n))

  apart_fails : (o : Option Run) → Apart r o → fails_at crc timeout r o ≡ false
  apart_fails None n = refl
  apart_fails (Some run) n =
      and_left (closes_at run.first run.since r) (not (eqb (crc (chain_bytes run.first (r ∷ run.since))) 0)) (and_left (follows run.first (tip run.first run.since) r) r.end n)

  -- where nothing begins and no chain goes on, nothing ends
  apart_ends : b ≡ false → Apart r got.begun → (delivery_at crc timeout r past ≡ None) × (is_bad crc timeout r past ≡ false)
  apart_ends n a = (
    cond-false b (cond r.end (Some (record { first = r; last = r; place = length past; content = r.body })) None) (delivery_of crc timeout r past got.begun) n ∙ apart_delivery got.begun a,
    and_right (not b) (fails_at crc timeout r got.begun) (apart_fails got.begun a),
  )

  says_apart : (reason : Reason) → Ends r.line reason → b ≡ false → Apart r got.begun → Says r.line reason (delivery_at crc timeout r past) (is_bad crc timeout r past)
  says_apart reason e n a =
      let x = apart_ends n a in
      record { delivery = e.delivery ∙ ap lines_of (sym x.0); fails = e.fails ∙ sym x.1 }

  -- what isn't heard
  off_bus : (o : Option Run) → InForce (force timeout past) o → heard timeout r past ≡ false → Apart r o
  off_bus None i h = tt
  off_bus (Some run) i h =
      let a = run.first in
      let same : force timeout (r ∷ past) ≡ Some a.bus = unheard_force timeout r past (force timeout past) h ∙ i in
      let other : eqb a.bus r.bus ≡ false = ap (λ (f : Option ℕ). is_bus f r.bus) (sym same) ∙ h in
      elim (cases_Bool (follows a (tip a run.since) r)) [
        | inr n ↦ n
        | inl y ↦ absurd (both_ways (eqb a.bus r.bus) other (eq-eqb a.bus r.bus (sym (follows_parts a (tip a run.since) r y).bus)))
      ]

  start_apart : (o : Option Run) → r.start ≡ true → Apart r o
  start_apart None s = tt
  start_apart (Some run) s =
      elim (cases_Bool (follows run.first (tip run.first run.since) r)) [
        | inr n ↦ n
        | inl y ↦ absurd (both_ways r.start (follows_parts run.first (tip run.first run.since) r y).not_start s)
      ]

  -- a record that goes on with the chain of a run
  says_closing : (run : Run) → got.begun ≡ Some run → b ≡ false → follows run.first (tip run.first run.since) r ≡ true → Says r.line (cond r.end (ended crc r run) (Taken run.first.line)) (delivery_at crc timeout r past) (is_bad crc timeout r past)
  says_closing run e n y =
      let a = run.first in
      let fits = eqb (crc (chain_bytes a (r ∷ run.since))) 0 in
      let d : Delivery = record { first = a; last = r; place = length past; content = without_crc (chain_bytes a (r ∷ run.since)) } in
      let at : delivery_at crc timeout r past ≡ cond (closes_at a run.since r && fits) (Some d) None =
      cond-false b (cond r.end (Some (record { first = r; last = r; place = length past; content = r.body })) None) (delivery_of crc timeout r past got.begun) n ∙ ap (delivery_of crc timeout r past) e in
      let bad : is_bad crc timeout r past ≡ (closes_at a run.since r && not fits) =
      ap (λ (k : Bool). not k && fails_at crc timeout r got.begun) n ∙ ap (fails_at crc timeout r) e in
      let closes : closes_at a run.since r ≡ r.end = ap (λ (k : Bool). k && r.end) y in
      let delivery = at ∙ ap (λ (k : Bool). cond (k && fits) (Some d) None) closes in
      let fails = bad ∙ ap (λ (k : Bool). k && not fits) closes in
      closing r.end fits a.line d refl refl _ _ delivery fails
    where
      closing : (end fits : Bool) (first : ℕ) (d : Delivery) → d.first.line ≡ first → d.last.line ≡ r.line → (o : Option Delivery) (k : Bool) → o ≡ cond (end && fits) (Some d) None → k ≡ (end && not fits)
          → Says r.line (cond end (cond fits (Delivered first (record { over = None; from = None })) (BadCrc first)) (Taken first)) o k
      closing true true first d p q o k x z = record { delivery = (λ i. Some (sym p i, sym q i)) ∙ ap lines_of (sym x); fails = sym z }
      closing true false first d p q o k x z = record { delivery = ap lines_of (sym x); fails = sym z }
      closing false fits first d p q o k x z = record { delivery = ap lines_of (sym x); fails = sym z }

  says_run : (o : Option Run) → got.begun ≡ o → b ≡ false → Says r.line (of_run crc r o) (delivery_at crc timeout r past) (is_bad crc timeout r past)
  says_run None e n = says_apart StrayNone (record { delivery = refl; fails = refl }) n (subst (Apart r) (sym e) tt)
  says_run (Some run) e n =
      let f = follows run.first (tip run.first run.since) r in
      let taken = cond r.end (ended crc r run) (Taken run.first.line) in
      elim (cases_Bool f) [
        | inl y ↦ subst (λ (x : Reason). Says r.line x (delivery_at crc timeout r past) (is_bad crc timeout r past)) (sym (cond-true f taken (stray r run) y)) (says_closing run e n y)
        | inr k ↦ subst (λ (x : Reason). Says r.line x (delivery_at crc timeout r past) (is_bad crc timeout r past)) (sym (cond-false f taken (stray r run) k))
            (says_apart (stray r run) (says_stray r.line r run) n (subst (Apart r) (sym e) k))
      ]

  -- a record that begins a transfer
  says_begun : (change : Change) → b ≡ true → Says r.line (begun_reason r change) (delivery_at crc timeout r past) (is_bad crc timeout r past)
  says_begun change y =
      let d : Delivery = record { first = r; last = r; place = length past; content = r.body } in
      begun r.end d refl refl _ _ (cond-true b (cond r.end (Some d) None) (delivery_of crc timeout r past got.begun) y) (and_left (not b) (fails_at crc timeout r got.begun) (not_from_true b y))
    where
      begun : (end : Bool) (d : Delivery) → d.first.line ≡ r.line → d.last.line ≡ r.line → (o : Option Delivery) (k : Bool) → o ≡ cond end (Some d) None → k ≡ false → Says r.line (cond end (Delivered r.line change) (reason.Begun change)) o k
      begun true d p q o k x z = record { delivery = (λ i. Some (sym p i, sym q i)) ∙ ap lines_of (sym x); fails = sym z }
      begun false d p q o k x z = record { delivery = ap lines_of (sym x); fails = sym z }

  says_heard : Says r.line (of_heard crc timeout r past got) (delivery_at crc timeout r past) (is_bad crc timeout r past)
  says_heard =
      let change : Change = record { over = running got.begun; from = from r past (force timeout past) } in
      let copy : Reason = Copy (last_line got.delivered) in
      elim (cases_Bool b) [
        | inl y ↦ subst (λ (x : Reason). Says r.line x (delivery_at crc timeout r past) (is_bad crc timeout r past)) (sym (cond-true b (begun_reason r change) (cond r.start copy (of_run crc r got.begun)) y)) (says_begun change y)
        | inr n ↦ subst (λ (x : Reason). Says r.line x (delivery_at crc timeout r past) (is_bad crc timeout r past)) (sym (cond-false b (begun_reason r change) (cond r.start copy (of_run crc r got.begun)) n))
            (elim (cases_Bool r.start) [
              | inl s ↦ subst (λ (x : Reason). Says r.line x (delivery_at crc timeout r past) (is_bad crc timeout r past)) (sym (cond-true r.start copy (of_run crc r got.begun) s))
                  (says_apart copy (record { delivery = refl; fails = refl }) n (start_apart got.begun s))
              | inr k ↦ subst (λ (x : Reason). Says r.line x (delivery_at crc timeout r past) (is_bad crc timeout r past)) (sym (cond-false r.start copy (of_run crc r got.begun) k)) (says_run got.begun refl n)
            ])
      ]

  says : Says r.line (of_key crc timeout r past) (delivery_at crc timeout r past) (is_bad crc timeout r past)
  says =
      let h = heard timeout r past in
      let un = unheard r past (force timeout past) in
      elim (cases_Bool h) [
        | inl y ↦ subst (λ (x : Reason). Says r.line x (delivery_at crc timeout r past) (is_bad crc timeout r past)) (sym (cond-true h (of_heard crc timeout r past got) un y)) says_heard
        | inr n ↦ subst (λ (x : Reason). Says r.line x (delivery_at crc timeout r past) (is_bad crc timeout r past)) (sym (cond-false h (of_heard crc timeout r past got) un n))
            (says_apart un (says_unheard r.line r past (force timeout past)) (and_right r.start _ (and_left h _ n)) (off_bus got.begun (run_bus crc timeout past) n))
      ]

pub tells_are : Tells
tells_are = record {
  deliveries = λ crc timeout r past. (says crc timeout r past).delivery;
  bad_crcs = λ crc timeout r past. (says crc timeout r past).fails;
}
