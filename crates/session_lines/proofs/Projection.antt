-- The lines of a session are what its records deliver.
use Rattle.std.proofs.Common.{◌≡◌, ◌∙◌, ℕ, zero, suc, Bool, true, false, cond, not, ◌&&◌, ◌||◌, eqb, List, [], ◌∷◌, ◌++◌, take, map, Option, Some, None, refl, sym, ap, subst, inl, inr, append-nil}
use Rattle.std.proofs.lemmas.Bool.{eqb-true, eq-eqb, ne_eqb, and_parts, and_from, or_left, or_right, or_cases, cond-true, cond-false, cond_both, both_ways, cases_Bool, true≢false}
use Rattle.std.proofs.lemmas.List.{map-append}
use Rattle.std.proofs.lemmas.Grind.{reverse_onto}
use mathlib.Core.List.{reverse}
use Rattle.can_id.specs.Identifiers.{key_of as key_of_ident, priority_of}
use Rattle.can_id.specs.declared.ident.Ident.{Ident}
use Rattle.can_id.specs.declared.ident.Ident.TheVariants.{Message, Anonymous, Service}
use Rattle.can_id.specs.declared.key.Key.{Key}
use Rattle.can_id.specs.declared.key.Kind.{Kind}
use Rattle.can_id.specs.declared.key.Kind.TheVariants as kind
use Rattle.tail_frame.specs.Chains.{KeyRecord}
use Rattle.tail_frame.specs.Frames.{FrameOf}
use Rattle.tail_frame.specs.declared.tail.Tail.{Tail}
use Rattle.transfer_crc.specs.Crc.{crc_of}
use Rattle.rx_table.specs.Admitted.{has, is_on, sources, key_of}
use Rattle.rx_table.specs.Keys.{SessionKey, KeyedFrame, same_kind, bears_on, history}
use Rattle.rx_table.specs.Laws.{DeliveredStep, Quiet}
use Rattle.rx_table.specs.Ports.{Port, port_at, is_admitted}
use Rattle.rx_table.specs.Received.{Delivery, received}
use Rattle.rx_table.specs.Steps.{add, delivery_at}
use Rattle.node_plan.specs.declared.plan.Plan.{Plan}
use Rattle.report_lines.specs.declared.line.Line.{Line}
use Rattle.rx_table.specs.Table.{keyed, log_with, port_on}
use Rattle.rx_table.specs.Heard.{frame_for, with_frame, frames}
use Rattle.node_core.specs.Heard.{ports_of}
use Rattle.node_core.specs.Received.{of_delivery, refused_line, of_session, of_source, on_port, of_frame}
use Rattle.node_core.specs.Steps.{Step, Heard, Tick, records, lines, lines_at}
use Rattle.delivery_theorems.specs.Report.{Rx as RxOf, rx_of, reported}
use Rattle.session_lines.specs.Reported.{is_key, rxs, of_key, has_session, Reported}
use Rattle.session_lines.proofs.Sending.{rxs_append, rxs_at}

-- one more source, another one
has_other : (s x n : ℕ) (xs : List ℕ) → eqb x s ≡ false → has s (take n (xs ++ x ∷ [])) ≡ has s (take n xs)
has_other s x zero xs e = refl
has_other s x (suc zero) [] e = ap (λ b. b || false) e
has_other s x (suc (suc n)) [] e = ap (λ b. b || false) e
has_other s x (suc n) (y ∷ xs) e = ap (λ b. eqb y s || b) (has_other s x n xs e)

-- one more source behind
has_more : (s n : ℕ) (xs ys : List ℕ) → has s (take n xs) ≡ true → has s (take n (xs ++ ys)) ≡ true
has_more s zero xs ys h = absurd (true≢false (sym h))
has_more s (suc n) [] ys h = absurd (true≢false (sym h))
has_more s (suc n) (x ∷ xs) ys h = elim (or_cases (eqb x s) (has s (take n xs)) h) [ inl e ↦ or_left (eqb x s) (has s (take n (xs ++ ys))) e | inr t ↦ or_right (eqb x s) (has s (take n (xs ++ ys))) (has_more s n xs ys t) ]

pub same_kind-true : (a b : Kind) → same_kind a b ≡ true → a ≡ b
same_kind-true kind.Message kind.Message h = refl
same_kind-true kind.Message kind.Request h = cc
same_kind-true kind.Message kind.Response h = cc
same_kind-true kind.Request kind.Message h = cc
same_kind-true kind.Request kind.Request h = refl
same_kind-true kind.Request kind.Response h = cc
same_kind-true kind.Response kind.Message h = cc
same_kind-true kind.Response kind.Request h = cc
same_kind-true kind.Response kind.Response h = refl

-- the port that is found is of the kind and the number
port_at-is : (kind : Kind) (port : ℕ) (ps : List Port) (p : Port) → port_at kind port ps ≡ Some p → (kind ≡ p.kind) × (port ≡ p.port)
port_at-is kind port [] p h = cc
port_at-is kind port (q ∷ ps) p h =
    elim (cases_Bool (same_kind kind q.kind && eqb port q.port)) [
      | inl y ↦
          let found : Some q ≡ Some p = sym (cond-true (same_kind kind q.kind && eqb port q.port) (Some q) (port_at kind port ps) y) ∙ h in
          let is : q ≡ p = cc in
          let both = and_parts (same_kind kind q.kind) (eqb port q.port) y in
          (same_kind-true kind q.kind both.0 ∙ ap (λ (t : Port). t.kind) is, eqb-true port q.port both.1 ∙ ap (λ (t : Port). t.port) is)
      | inr n ↦ port_at-is kind port ps p (sym (cond-false (same_kind kind q.kind && eqb port q.port) (Some q) (port_at kind port ps) n) ∙ h)
    ]

opt : ℕ → Option Delivery → List RxOf
opt extent None = []
opt extent (Some d) = rx_of extent d ∷ []

rx_add : (extent : ℕ) (o : Option Delivery) (ds : List Delivery) → map (rx_of extent) (reverse (add o ds)) ≡ map (rx_of extent) (reverse ds) ++ opt extent o
unfolding opt
rx_add extent None ds = sym (append-nil (map (rx_of extent) (reverse ds)))
rx_add extent (Some d) ds = ap (map (rx_of extent)) (reverse_onto ds d []) ∙ map-append (rx_of extent) (reverse ds) (d ∷ [])

-- a delivery on a line is of the line's key
rxs_delivery : (plan : Plan) (extent : ℕ) (k : Key) (key : SessionKey) (o : Option Delivery) → is_key key k ≡ true → rxs key (of_delivery plan extent k o) ≡ opt extent o
unfolding opt
rxs_delivery plan extent k key None e = refl
rxs_delivery plan extent k key (Some d) e = ap (λ h. h ++ []) (cond-true (is_key key k) (rx_of extent d ∷ []) [] e)

no_delivery : (plan : Plan) (extent : ℕ) (k : Key) (key : SessionKey) (o : Option Delivery) → is_key key k ≡ false → rxs key (of_delivery plan extent k o) ≡ []
no_delivery plan extent k key None e = refl
no_delivery plan extent k key (Some d) e = ap (λ h. h ++ []) (cond-false (is_key key k) (rx_of extent d ∷ []) [] e)

refused : (b : Bool) (key : SessionKey) (k : Key) (r : KeyRecord) → rxs key (cond b (refused_line k r ∷ []) []) ≡ []
refused true key k r = refl
refused false key k r = refl

-- a frame of another key gives no line of this one
other : (plan : Plan) (key : SessionKey) (q : Port) (k : Key) (f : KeyedFrame) (log : List KeyedFrame) → is_key key k ≡ false → rxs key (of_session plan q k f log) ≡ []
other plan key q k f log e =
    let d = delivery_at crc_of plan.timeout f.rec (history f.key log) in
    cond_both (is_admitted q f log) (of_delivery plan q.extent k d) (cond f.rec.start (refused_line k f.rec ∷ []) []) (λ ls. rxs key ls ≡ []) (λ _. no_delivery plan q.extent k key d e) (λ _. refused f.rec.start key k f.rec)

module _ (step : DeliveredStep) (quiet : Quiet) (plan : Plan) (p : Port) (source : ℕ) where
  -- the key of a source on the port
  abbrev mine : SessionKey
  mine = key_of p.kind p.port source

  abbrev rep : List KeyedFrame → List RxOf
  rep log = reported plan.timeout p.extent (history mine log)

  abbrev adm : List KeyedFrame → Bool
  adm log = has_session p source log

  abbrev ss : List KeyedFrame → List ℕ
  ss log = sources p.kind p.port log

  -- what stands in the report of these frames
  abbrev shown : List KeyedFrame → List RxOf
  shown log = cond (adm log) (rep log) []

  -- a frame of another key
  same : (f : KeyedFrame) (log : List KeyedFrame) → bears_on mine f ≡ false → shown (f ∷ log) ≡ shown log
  same f log e =
      let grows = is_on p.kind p.port f && (f.rec.start && not (has f.key.source (ss log))) in
      let h : history mine (f ∷ log) ≡ history mine log = cond-false (bears_on mine f) (f.rec ∷ history mine log) (history mine log) e in
      let a : adm (f ∷ log) ≡ adm log =
      cond_both grows (ss log ++ f.key.source ∷ []) (ss log) (λ (t : List ℕ). has source (take p.sources t) ≡ has source (take p.sources (ss log)))
      (λ y.
      let on = and_parts (same_kind f.key.kind p.kind) (eqb f.key.port p.port) (and_parts (is_on p.kind p.port f) (f.rec.start && not (has f.key.source (ss log))) y).0 in
      let diff : eqb f.key.source source ≡ false = ne_eqb f.key.source source (λ q. both_ways (bears_on mine f) e (and_from (same_kind f.key.kind p.kind) (eqb f.key.port p.port && eqb f.key.source source) on.0 (and_from (eqb f.key.port p.port) (eqb f.key.source source) on.1 (eq-eqb f.key.source source q)))) in
      has_other source f.key.source p.sources (ss log) diff) (λ _. refl) in
      ap (λ b. cond b (rep (f ∷ log)) []) a ∙ ap (λ (t : List KeyRecord). cond (adm log) (reported plan.timeout p.extent t) []) h

  -- a frame of this key
  module _ (f : KeyedFrame) (log : List KeyedFrame) (here : bears_on mine f ≡ true) where
    abbrev grows : Bool
    grows = is_on p.kind p.port f && (f.rec.start && not (has f.key.source (ss log)))

    source_is : f.key.source ≡ source
    source_is =
        let q = and_parts (same_kind f.key.kind p.kind) (eqb f.key.port p.port && eqb f.key.source source) here in
        eqb-true f.key.source source (and_parts (eqb f.key.port p.port) (eqb f.key.source source) q.1).1

    key_is : f.key ≡ mine
    key_is =
        let q = and_parts (same_kind f.key.kind p.kind) (eqb f.key.port p.port && eqb f.key.source source) here in
        let a = same_kind-true f.key.kind p.kind q.0 in
        let b = eqb-true f.key.port p.port (and_parts (eqb f.key.port p.port) (eqb f.key.source source) q.1).0 in
        let c = source_is in
        λ i. record { kind = a i; port = b i; source = c i }

    none_before : adm log ≡ false → adm (f ∷ log) ≡ true → rep log ≡ []
    none_before n y =
        elim (cases_Bool grows) [
          | inl g ↦
              let fresh : has f.key.source (ss log) ≡ false = not_true (has f.key.source (ss log)) (and_parts f.rec.start (not (has f.key.source (ss log))) (and_parts (is_on p.kind p.port f) (f.rec.start && not (has f.key.source (ss log))) g).1).1 in
              ap (λ (ds : List Delivery). map (rx_of p.extent) (reverse ds)) (quiet crc_of plan.timeout p.kind p.port source log (subst (λ s. has s (ss log) ≡ false) source_is fresh))
          | inr g ↦ absurd (both_ways (adm log) n (ap (λ (t : List ℕ). has source (take p.sources t)) (sym (cond-false grows (ss log ++ f.key.source ∷ []) (ss log) g)) ∙ y))
        ]
      where
        not_true : (b : Bool) → not b ≡ true → b ≡ false
        not_true true h = absurd (true≢false (sym h))
        not_true false h = refl

    grown : adm (f ∷ log) ≡ false → adm log ≡ false
    grown n =
        elim (cases_Bool (adm log)) [
          | inl y ↦ absurd (both_ways (adm (f ∷ log)) n (cond_both grows (ss log ++ f.key.source ∷ []) (ss log) (λ (t : List ℕ). has source (take p.sources t) ≡ true) (λ _. has_more source p.sources (ss log) (f.key.source ∷ []) y) (λ _. y)))
          | inr n ↦ n
        ]

    whole : (l : List RxOf) → l ≡ shown log → adm (f ∷ log) ≡ true → l ≡ rep log
    whole l e y = elim (cases_Bool (adm log)) [ inl a ↦ e ∙ cond-true (adm log) (rep log) [] a | inr a ↦ e ∙ (cond-false (adm log) (rep log) [] a ∙ sym (none_before a y)) ]

    own : (k : Key) (l : List RxOf) → is_key mine k ≡ true → l ≡ shown log → l ++ rxs mine (of_session plan p k f log) ≡ shown (f ∷ log)
    own k l of_it e =
        let o = delivery_at crc_of plan.timeout f.rec (history f.key log) in
        let o' = delivery_at crc_of plan.timeout f.rec (history mine log) in
        let oe : o ≡ o' = ap (λ (t : SessionKey). delivery_at crc_of plan.timeout f.rec (history t log)) key_is in
        let ad : is_admitted p f log ≡ adm (f ∷ log) = ap (λ s. has_session p s (f ∷ log)) source_is in
        let h : history mine (f ∷ log) ≡ f.rec ∷ history mine log = cond-true (bears_on mine f) (f.rec ∷ history mine log) (history mine log) here in
        cond_both (is_admitted p f log) (of_delivery plan p.extent k o) (cond f.rec.start (refused_line k f.rec ∷ []) []) (λ ls. l ++ rxs mine ls ≡ shown (f ∷ log))
        (λ y.
        let y' = sym ad ∙ y in
        let one = rxs_delivery plan p.extent k mine o of_it ∙ ap (opt p.extent) oe in
        let left = ap (λ t. l ++ t) one ∙ ap (λ t. t ++ opt p.extent o') (whole l e y') in
        let right = cond-true (adm (f ∷ log)) (rep (f ∷ log)) [] y' ∙ (ap (reported plan.timeout p.extent) h ∙ (ap (λ (ds : List Delivery). map (rx_of p.extent) (reverse ds)) (step crc_of plan.timeout f.rec (history mine log)) ∙ rx_add p.extent o' (received crc_of plan.timeout (history mine log)).delivered)) in
        left ∙ sym right)
        (λ m.
        let m' = sym ad ∙ m in
        ap (λ t. l ++ t) (refused f.rec.start mine k f.rec) ∙ (append-nil l ∙ (e ∙ (cond-false (adm log) (rep log) [] (grown m') ∙ sym (cond-false (adm (f ∷ log)) (rep (f ∷ log)) [] m')))))

-- what a frame with a source gives on a port, or on none
over : Plan → Option Port → Key → KeyedFrame → List KeyedFrame → List Line
over plan None k f log = []
over plan (Some q) k f log = of_session plan q k f log

over_port : (plan : Plan) (f : FrameOf) (k : KeyedFrame) (log : List KeyedFrame) (o : Option Port) → keyed f ≡ Some k → on_port plan f log o ≡ over plan o (key_of_ident f.ident) k log
unfolding over
over_port plan f k log None e = refl
over_port plan f k log (Some q) e = ap (of_source plan q f log) e

over_other : (plan : Plan) (key : SessionKey) (o : Option Port) (k : Key) (f : KeyedFrame) (log : List KeyedFrame) → is_key key k ≡ false → rxs key (over plan o k f log) ≡ []
unfolding over
over_other plan key None k f log e = refl
over_other plan key (Some q) k f log e = other plan key q k f log e

and_no : (a b : Bool) → (a && (b && false)) ≡ false
and_no true true = refl
and_no true false = refl
and_no false b = refl

-- an anonymous message gives no line of a session
anonymous : (plan : Plan) (key : SessionKey) (f : FrameOf) (log : List KeyedFrame) (o : Option Port) → keyed f ≡ None → is_key key (key_of_ident f.ident) ≡ false → rxs key (on_port plan f log o) ≡ []
anonymous plan key f log None e n = refl
anonymous plan key f log (Some q) e n =
    ap (λ (k : Option KeyedFrame). rxs key (of_source plan q f log k)) e
    ∙ ap (λ (ls : List RxOf). ls ++ []) (cond-false (is_key key (key_of_ident f.ident)) (record { moment = f.moment; bus = f.bus; priority = priority_of f.ident; tid = f.tail.tid; first = f.line; last = f.line; payload = take q.extent f.body } ∷ []) [] n)

module _ (step : DeliveredStep) (quiet : Quiet) (plan : Plan) (p : Port) (source : ℕ) (there : port_at p.kind p.port (ports_of plan) ≡ Some p) where
  abbrev me : SessionKey
  me = key_of p.kind p.port source

  abbrev seen : List KeyedFrame → List RxOf
  seen log = shown step quiet plan p source log

  -- a frame with a source, whose lines have this key
  keyed_step : (k : Key) (f : KeyedFrame) (log : List KeyedFrame) (l : List RxOf) → k ≡ record { kind = f.key.kind; port = f.key.port; source = Some f.key.source }
      → l ≡ seen log → l ++ rxs me (over plan (port_at f.key.kind f.key.port (ports_of plan)) k f log) ≡ seen (f ∷ log)
  unfolding over
  keyed_step k f log l is e =
      let same_key : is_key me k ≡ bears_on me f = ap (is_key me) is in
      elim (cases_Bool (bears_on me f)) [
        | inl y ↦
            let at : port_at f.key.kind f.key.port (ports_of plan) ≡ Some p = ap (λ (t : SessionKey). port_at t.kind t.port (ports_of plan)) (key_is step quiet plan p source f log y) ∙ there in
            ap (λ (o : Option Port). l ++ rxs me (over plan o k f log)) at ∙ own step quiet plan p source f log y k l (same_key ∙ y) e
        | inr n ↦
            ap (λ t. l ++ t) (over_other plan me (port_at f.key.kind f.key.port (ports_of plan)) k f log (same_key ∙ n))
            ∙ (append-nil l ∙ (e ∙ sym (same step quiet plan p source f log n)))
      ]

  session_step : (f : FrameOf) (k : KeyedFrame) (log : List KeyedFrame) (l : List RxOf) → keyed f ≡ Some k
      → key_of_ident f.ident ≡ record { kind = k.key.kind; port = k.key.port; source = Some k.key.source }
      → l ≡ seen log → l ++ rxs me (on_port plan f log (port_on (ports_of plan) f)) ≡ seen (log_with (keyed f) log)
  session_step f k log l e is h =
      let at : port_on (ports_of plan) f ≡ port_at k.key.kind k.key.port (ports_of plan) = ap (λ (t : Key). port_at t.kind t.port (ports_of plan)) is in
      ap (λ (o : Option Port). l ++ rxs me (on_port plan f log o)) at
      ∙ (ap (λ (ls : List Line). l ++ rxs me ls) (over_port plan f k log (port_at k.key.kind k.key.port (ports_of plan)) e)
      ∙ (keyed_step (key_of_ident f.ident) k log l is h ∙ ap (λ (o : Option KeyedFrame). seen (log_with o log)) (sym e)))

  ident_step : (ident : Ident) (line moment bus : ℕ) (tail : Tail) (body : List ℕ) (log : List KeyedFrame) (l : List RxOf) → l ≡ seen log
      → let f : FrameOf = record { line = line; moment = moment; bus = bus; ident = ident; tail = tail; body = body } in
      l ++ rxs me (on_port plan f log (port_on (ports_of plan) f)) ≡ seen (log_with (keyed f) log)
  ident_step (Message priority subject s) line moment bus tail body log l h =
      session_step (record { line = line; moment = moment; bus = bus; ident = Message priority subject s; tail = tail; body = body }) _ log l refl refl h
  ident_step (Anonymous priority subject pseudo) line moment bus tail body log l h =
      let f : FrameOf = record { line = line; moment = moment; bus = bus; ident = Anonymous priority subject pseudo; tail = tail; body = body } in
      ap (λ t. l ++ t) (anonymous plan me f log (port_on (ports_of plan) f) refl (and_no (same_kind kind.Message p.kind) (eqb subject p.port))) ∙ (append-nil l ∙ h)
  ident_step (Service priority is_request service destination s) line moment bus tail body log l h =
      session_step (record { line = line; moment = moment; bus = bus; ident = Service priority is_request service destination s; tail = tail; body = body }) _ log l refl refl h

  frame_step : (o : Option FrameOf) (log : List KeyedFrame) (l : List RxOf) → l ≡ seen log → l ++ rxs me (of_frame plan log o) ≡ seen (with_frame o log)
  frame_step None log l h = append-nil l ∙ h
  frame_step (Some f) log l h = ident_step f.ident f.line f.moment f.bus f.tail f.body log l h

  all : (steps : List Step) → rxs me (lines plan steps) ≡ seen (frames plan.node (records steps))
  all [] = cond_both (has_session p source []) (map (rx_of p.extent) (reverse [])) [] (λ (v : List RxOf). [] ≡ v) (λ _. refl) (λ _. refl)
  all (Heard rec file ∷ past) =
      rxs_append me (lines plan past) (lines_at plan (Heard rec file) past)
      ∙ (ap (λ t. rxs me (lines plan past) ++ t) (rxs_at me plan (Heard rec file) past)
      ∙ frame_step (frame_for plan.node rec) (frames plan.node (records past)) (rxs me (lines plan past)) (all past))
  all (Tick number moment ∷ past) =
      rxs_append me (lines plan past) (lines_at plan (Tick number moment) past)
      ∙ (ap (λ t. rxs me (lines plan past) ++ t) (rxs_at me plan (Tick number moment) past)
      ∙ (append-nil (rxs me (lines plan past)) ∙ all past))

pub reported_is : DeliveredStep → Quiet → Reported
reported_is step quiet plan key steps p s =
    let is = port_at-is key.kind key.port (ports_of plan) p s.port in
    let at : port_at p.kind p.port (ports_of plan) ≡ Some p = ap (λ (k : Kind). port_at k p.port (ports_of plan)) (sym is.0) ∙ (ap (λ n. port_at key.kind n (ports_of plan)) (sym is.1) ∙ s.port) in
    let log = frames plan.node (records steps) in
    let same_key : key_of p.kind p.port key.source ≡ key = λ i. record { kind = sym is.0 i; port = sym is.1 i; source = key.source } in
    let there : rxs (key_of p.kind p.port key.source) (lines plan steps) ≡ reported plan.timeout p.extent (history (key_of p.kind p.port key.source) log) =
    all step quiet plan p key.source at steps ∙ cond-true (has_session p key.source log) (reported plan.timeout p.extent (history (key_of p.kind p.port key.source) log)) [] s.admitted_there in
    subst (λ (t : SessionKey). rxs t (lines plan steps) ≡ reported plan.timeout p.extent (of_key plan t (records steps))) same_key there
