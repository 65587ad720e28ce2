-- From places among a key's records to lines of the log, and from the newest first to the order of the report
use Rattle.std.proofs.Common.{◌≡◌, ℕ, ◌<◌, ◌≤◌, ◌&&◌, eqb, List, [], ◌∷◌, length, take, map, Option, Some, None, refl, sym, ap, ◌∙◌, subst, arith}
use Rattle.std.specs.Prelude.{⊤}
use mathlib.Core.List.{reverse_aux}
use Rattle.std.proofs.lemmas.Bool.{eq-eqb, ne_eqb, cond-true, cond-false, cond_both}
use Rattle.tail_frame.specs.Chains.{KeyRecord, AtEach, chain_bytes, closes_at, without_crc}
use Rattle.rx_table.specs.Received.{Delivery, Run, Got, begins, alone, not_begun, received}
use Rattle.frag.specs.Sent.{transfer_at, data_on, InTime}
use Rattle.frag.specs.declared.sent.Pair.{Pair}
use Rattle.frag.specs.declared.sent.Sent.{Sent}
use Rattle.transfer_crc.specs.Crc.{crc_of}
use Rattle.delivery_theorems.specs.Selected.{Each, Selected}
use Rattle.rx_table.specs.Keys.{SessionKey, KeyedFrame, bears_on, history, EachFrame, IsLog}
use Rattle.delivery_theorems.specs.Report.{Rx, rx_of, pair_on, EachNumber, Rise, IsSentRx, EachRx, OnceInReport}
use Rattle.frag.specs.Sent.{pair_at}
use Rattle.delivery_theorems.proofs.Gates.{at_each_map}
use Rattle.delivery_theorems.proofs.Known.{are_known}
use Rattle.delivery_theorems.proofs.Selection.{once_theorem}

-- what holds of each frame of a log holds of each record of a key
each_of_key : (P : KeyRecord → Type 0) (key : SessionKey) (log : List KeyedFrame) → EachFrame (λ f. P f.rec) log → AtEach (λ r _. P r) (history key log)
each_of_key P key [] x = tt
each_of_key P key (f ∷ log) x =
    cond_both (bears_on key f) (f.rec ∷ history key log) (history key log) (AtEach (λ r _. P r)) (λ _. (x.0, each_of_key P key log x.1)) (λ _. each_of_key P key log x.1)

of_key : (key : SessionKey) (log : List KeyedFrame) → IsLog log → AtEach (λ r past. AtEach (λ e _. (e.moment ≤ r.moment) × (e.line < r.line)) past) (history key log)
of_key key [] x = tt
of_key key (f ∷ log) x =
    cond_both (bears_on key f) (f.rec ∷ history key log) (history key log) (AtEach (λ r past. AtEach (λ e _. (e.moment ≤ r.moment) × (e.line < r.line)) past))
    (λ _. (each_of_key (λ e. (e.moment ≤ f.rec.moment) × (e.line < f.rec.line)) key log x.0, of_key key log x.1)) (λ _. of_key key log x.1)

in_time : (h : List KeyRecord) → AtEach (λ r past. AtEach (λ e _. (e.moment ≤ r.moment) × (e.line < r.line)) past) h → InTime h
in_time h = at_each_map (λ r past. AtEach (λ e _. (e.moment ≤ r.moment) × (e.line < r.line)) past) (λ r past. AtEach (λ e _. e.moment ≤ r.moment) past) (λ r past. at_each_map (λ e _. (e.moment ≤ r.moment) × (e.line < r.line)) (λ e _. e.moment ≤ r.moment) (λ e _ x. x.0) past) h

-- a delivery's last record has its line, and the pair on that line is the one at its place
abbrev Names : List Pair → List KeyRecord → Delivery → Type 0
Names origin h d = (pair_on origin h d.last.line ≡ pair_at origin d.place) × ((n : ℕ) → AtEach (λ e _. e.line < n) h → d.last.line < n)

names_new : (origin : List Pair) (r : KeyRecord) (past : List KeyRecord) (d : Delivery) → d.last ≡ r → d.place ≡ length past → Names origin (r ∷ past) d
names_new origin r past d last place = (
  cond-true (eqb r.line d.last.line) (pair_at origin (length past)) (pair_on origin past d.last.line) (eq-eqb r.line d.last.line (ap (λ (e : KeyRecord). e.line) (sym last))) ∙ ap (pair_at origin) (sym place),
  λ n x. subst (λ (e : KeyRecord). e.line < n) (sym last) x.0,
)

each_map : (P Q : Delivery → Type 0) → ((d : Delivery) → P d → Q d) → (ds : List Delivery) → Each P ds → Each Q ds
each_map P Q f [] x = tt
each_map P Q f (d ∷ ds) x = (f d x.0, each_map P Q f ds x.1)

names_more : (origin : List Pair) (r : KeyRecord) (past : List KeyRecord) → AtEach (λ e _. e.line < r.line) past → (ds : List Delivery) → Each (Names origin past) ds → Each (Names origin (r ∷ past)) ds
names_more origin r past below =
    each_map (Names origin past) (Names origin (r ∷ past))
    (λ d x.
    let less = x.1 r.line below in (
      cond-false (eqb r.line d.last.line) (pair_at origin (length past)) (pair_on origin past d.last.line) (ne_eqb r.line d.last.line (λ e. absurd (omega arith))) ∙ x.0,
      λ n y. x.1 n y.1,
    ))

names_on : (origin : List Pair) (crc : List ℕ → ℕ) (timeout : ℕ) (r : KeyRecord) (past : List KeyRecord) (begun : Option Run) (ds : List Delivery) → Each (Names origin (r ∷ past)) ds → Each (Names origin (r ∷ past)) (not_begun crc timeout r past begun ds).delivered
names_on origin crc timeout r past None ds x = x
names_on origin crc timeout r past (Some run) ds x =
    let d : Delivery = record { first = run.first; last = r; place = length past; content = without_crc (chain_bytes run.first (r ∷ run.since)) } in
    cond_both (closes_at run.first run.since r && eqb (crc (chain_bytes run.first (r ∷ run.since))) 0) (d ∷ ds) ds (Each (Names origin (r ∷ past))) (λ _. (names_new origin r past d refl refl, x)) (λ _. x)

names : (origin : List Pair) (crc : List ℕ → ℕ) (timeout : ℕ) (h : List KeyRecord) → AtEach (λ r past. AtEach (λ e _. (e.moment ≤ r.moment) × (e.line < r.line)) past) h → Each (Names origin h) (received crc timeout h).delivered
names origin crc timeout [] x = tt
names origin crc timeout (r ∷ past) x =
    let g = received crc timeout past in
    let d : Delivery = record { first = r; last = r; place = length past; content = r.body } in
    let ih = names_more origin r past (at_each_map (λ e _. (e.moment ≤ r.moment) × (e.line < r.line)) (λ e _. e.line < r.line) (λ e _ y. y.1) past x.0) g.delivered (names origin crc timeout past x.1) in
    cond_both (begins timeout r past g.delivered) (record { begun = Some (record { first = r; since = [] }); delivered = alone crc timeout r past g.delivered }) (not_begun crc timeout r past g.begun g.delivered) (λ (w : Got). Each (Names origin (r ∷ past)) w.delivered)
    (λ _. cond_both r.end (d ∷ g.delivered) g.delivered (Each (Names origin (r ∷ past))) (λ _. (names_new origin r past d refl refl, ih)) (λ _. ih))
    (λ _. names_on origin crc timeout r past g.begun g.delivered ih)

module _ (extent : ℕ) (sent : Sent) (origin : List Pair) (h : List KeyRecord) where
  -- the position of what a line reports
  abbrev position_of : Rx → ℕ
  position_of rx = (pair_on origin h rx.last).j

  abbrev Good : Rx → Type 0
  Good rx = IsSentRx extent sent origin h rx

  -- the newest first, by lines
  abbrev Fall : List Delivery → Type 0
  Fall [] = ⊤
  Fall (d ∷ ds) = Good (rx_of extent d) × Each (λ e. position_of (rx_of extent e) < position_of (rx_of extent d)) ds × Fall ds

  fall_each : (d : Delivery) (ds : List Delivery) → Names origin h d → Each (Names origin h) ds → Each (λ e. (pair_at origin e.place).j < (pair_at origin d.place).j) ds → Each (λ e. position_of (rx_of extent e) < position_of (rx_of extent d)) ds
  fall_each d [] n ns x = tt
  fall_each d (e ∷ ds) n ns x = (subst (λ (p : Pair). p.j < position_of (rx_of extent d)) (sym ns.0.0) (subst (λ (p : Pair). (pair_at origin e.place).j < p.j) (sym n.0) x.0), fall_each d ds n ns.1 x.1)

  fall : (ds : List Delivery) → Each (Names origin h) ds → Each (λ d. (pair_on origin h d.last.line).j < length sent.transfers) ds → Selected sent (pair_at origin) ds → Fall ds
  fall [] n k s = tt
  fall (d ∷ ds) n k s =
      let at : (pair_at origin d.place).j ≡ position_of (rx_of extent d) = ap (λ (p : Pair). p.j) (sym n.0.0) in (
        record {
          known = k.0;
          priority = s.0.priority ∙ ap (λ k. (transfer_at sent k).priority) at;
          tid = s.0.tid ∙ ap (λ k. (transfer_at sent k).tid) at;
          payload = ap (take extent) (s.0.content ∙ ap (λ k. data_on sent k d.first.bus) at);
        },
        fall_each d ds n.0 n.1 s.1,
        fall ds n.1 k.1 s.2,
      )

  abbrev lines_of : List Delivery → List Rx
  lines_of ds = map (rx_of extent) ds

  abbrev positions_of : List Delivery → List ℕ
  positions_of ds = map position_of (lines_of ds)

  before_more : (d : Delivery) (acc : List Delivery) (ds : List Delivery) → Each (λ e. position_of (rx_of extent e) < position_of (rx_of extent d)) ds → Each (λ e. EachNumber (λ k. position_of (rx_of extent e) < k) (positions_of acc)) ds → Each (λ e. EachNumber (λ k. position_of (rx_of extent e) < k) (positions_of (d ∷ acc))) ds
  before_more d acc [] x y = tt
  before_more d acc (e ∷ ds) x y = ((x.0, y.0), before_more d acc ds x.1 y.1)

  turned : (ds acc : List Delivery) → Fall ds → Each (λ e. EachNumber (λ k. position_of (rx_of extent e) < k) (positions_of acc)) ds
      → EachRx Good (lines_of acc) → Rise (positions_of acc)
      → EachRx Good (lines_of (reverse_aux ds acc)) × Rise (positions_of (reverse_aux ds acc))
  turned [] acc f b g r = (g, r)
  turned (d ∷ ds) acc f b g r = turned ds (d ∷ acc) f.2 (before_more d acc ds f.1 b.1) (f.0, g) (b.0, r)

  all_before : (ds : List Delivery) → Each (λ e. EachNumber (λ k. position_of (rx_of extent e) < k) []) ds
  all_before [] = tt
  all_before (d ∷ ds) = (tt, all_before ds)

pub once_in_report : OnceInReport
once_in_report timeout extent sent key origin log is_log x =
    let h = history key log in
    let both = of_key key log is_log in
    let s = once_theorem timeout sent (pair_at origin) h x.sent_list (in_time h both) x.explained x.no_chance in
    let n = names origin crc_of timeout h both in
    let ds = (received crc_of timeout h).delivered in
    let known = are_known timeout sent origin h x.explained in
    let t = turned extent sent origin h ds [] (fall extent sent origin h ds n known s) (all_before extent sent origin h ds) tt tt in
    record { sent_ones = t.0; in_order = t.1 }
