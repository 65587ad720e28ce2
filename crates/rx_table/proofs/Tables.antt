-- What a table answers, and that it keeps what it stands for.
use Rattle.std.proofs.Common.{◌≡◌, ℕ, ◌+◌, ◌^◌, ◌<◌, Bool, true, false, cond, ◌&&◌, eqb, ltb, List, [], ◌∷◌, ◌++◌, length, Option, Some, None, refl, sym, ap, ◌∙◌, subst, inl, inr, arith}
use Rattle.std.proofs.lemmas.Bool.{eqb-true, eq-eqb, and_parts, and_from, and_left, and_right, or_right, or_cases, cond-true, cond-false, cond_both, both_ways, cases_Bool, true≢false, ltb-true}
use Rattle.can_id.specs.declared.key.Kind.{Kind}
use Rattle.tail_frame.specs.Chains.{KeyRecord}
use Rattle.rx_session.specs.Session.{Session, Outcome, Ignored, advance}
use Rattle.rx_table.specs.Keys.{KeyedFrame, same_kind, history}
use Rattle.rx_table.specs.Admitted.{has, is_on, sources, key_of}
use Rattle.rx_table.specs.Stands.{Stands, OutcomeIs}
use Rattle.rx_table.specs.Ports.{Port, Entry, PortState, Answer, NoSession, OfSession, open_session, sources_of, ports_of, port_at, IsPortList, is_admitted, advance_at, outcome_at, feed_port, answer_port, feed_table, answer_table, EachStands, PortStands, AnswerIs, AnswerAt}
use Rattle.rx_table.specs.Laws.{CrcOfParts, PortSimulates, TableSimulates, FeedsOne, FeedsNone}
use Rattle.rx_table.proofs.Simulation.{advances}
use Rattle.rx_table.proofs.Sources.{same_kind_true, has_append, no_start}
use Rattle.rx_table.proofs.Entries.{sources_append, unknown, open_size, opened, sources_fed, port_step}

-- the key of a frame on a port
key_is : (kind : Kind) (port : ℕ) (f : KeyedFrame) → is_on kind port f ≡ true → key_of kind port f.key.source ≡ f.key
key_is kind port f on =
    let p = and_parts (same_kind f.key.kind kind) (eqb f.key.port port) on in
    let k = same_kind_true f.key.kind kind p.0 in
    let n = eqb-true f.key.port port p.1 in
    λ i. record { kind = sym k i; port = sym n i; source = f.key.source }

module _ (crc_more : ℕ → List ℕ → ℕ) (crc_start timeout : ℕ) (crc_append : CrcOfParts crc_more) (port : Port) (small : port.extent + 2 < 2 ^ 64) where
  abbrev Says : ℕ → KeyRecord → List KeyedFrame → Outcome → Type 0
  Says source r log o = OutcomeIs (crc_more crc_start) timeout port.extent r (history (key_of port.kind port.port source) log) o

  session_says : (r : KeyRecord) (log : List KeyedFrame) (source : ℕ) (s : Session) → Stands (crc_more crc_start) timeout (history (key_of port.kind port.port source) log) s → length s.buffer ≡ port.extent → Says source r log (advance crc_more crc_start timeout s r).1
  session_says r log source s st size =
      let past = history (key_of port.kind port.port source) log in
      subst (λ n. OutcomeIs (crc_more crc_start) timeout n r past (advance crc_more crc_start timeout s r).1) size (advances crc_more crc_start timeout crc_append past r s (let long = size in omega arith) st).2

  -- the session of a source says what ends there
  entry_says : (source : ℕ) (r : KeyRecord) (log : List KeyedFrame) (es : List Entry) → EachStands (crc_more crc_start) timeout port log es → has source (sources_of es) ≡ true → Says source r log (outcome_at crc_more crc_start timeout source r es)
  entry_says source r log [] x h = absurd (true≢false (sym h))
  entry_says source r log (e ∷ es) x h =
      cond_both (eqb e.source source) (advance crc_more crc_start timeout e.session r).1 (outcome_at crc_more crc_start timeout source r es) (Says source r log)
      (λ y. subst (λ s. Says s r log (advance crc_more crc_start timeout e.session r).1) (eqb-true e.source source y) (session_says r log e.source e.session x.0 x.1))
      (λ n. entry_says source r log es x.2 (elim (or_cases (eqb e.source source) (has source (sources_of es)) h) [ inl y ↦ absurd (both_ways (eqb e.source source) n y) | inr t ↦ t ]))

  -- the answer of an admitted source
  of_session : (f : KeyedFrame) (log : List KeyedFrame) (answer : Answer) (o : Outcome) → is_on port.kind port.port f ≡ true → is_admitted port f log ≡ true → answer ≡ OfSession o → Says f.key.source f.rec log o → AnswerIs (crc_more crc_start) timeout port f log answer
  of_session f log answer o on y e x = record {
    session = λ _. (o, e, subst (λ k. OutcomeIs (crc_more crc_start) timeout port.extent f.rec (history k log) o) (key_is port.kind port.port f on) x);
    refused = λ n. absurd (both_ways (is_admitted port f log) n y);
    ignored = λ n. absurd (both_ways (is_admitted port f log) n y);
  }

  port_answers : (log : List KeyedFrame) (es : List Entry) (f : KeyedFrame) → PortStands (crc_more crc_start) timeout port log es → is_on port.kind port.port f ≡ true → AnswerIs (crc_more crc_start) timeout port f log (answer_port crc_more crc_start timeout port es f)
  port_answers log es f st on =
      let src = f.key.source in
      let known = has src (sources_of es) in
      let room = ltb (length es) port.sources in
      let grows = f.rec.start && room in
      let new : Entry = record { source = src; session = (advance crc_more crc_start timeout (open_session port.extent) f.rec).0 } in
      let first = (advance crc_more crc_start timeout (open_session port.extent) f.rec).1 in
      let fed = advance_at crc_more crc_start timeout src f.rec es in
      let more = cond grows (es ++ new ∷ []) es in
      let at : is_admitted port f log ≡ has src (sources_of (cond known fed more)) =
      ap (has src) (sym (port_step crc_more crc_start timeout crc_append port small log es f st).sources_are) ∙ ap (λ x. has src (sources_of x)) (cond-true (is_on port.kind port.port f) (cond known fed more) es on) in
      let outcome = OfSession (outcome_at crc_more crc_start timeout src f.rec es) in
      let fresh = cond f.rec.start (cond room (OfSession first) NoSession) (OfSession Ignored) in
      elim (cases_Bool known) [
        | inl y ↦
            of_session f log (cond known outcome fresh) (outcome_at crc_more crc_start timeout src f.rec es) on
            (at ∙ (ap (λ x. has src (sources_of x)) (cond-true known fed more y) ∙ (ap (has src) (sources_fed crc_more crc_start timeout crc_append port small src f.rec es) ∙ y)))
            (cond-true known outcome fresh y) (entry_says src f.rec log es st.sessions y)
        | inr absent ↦
            let now = cond-false known outcome fresh absent in
            let after : is_admitted port f log ≡ has src (sources_of more) = at ∙ ap (λ x. has src (sources_of x)) (cond-false known fed more absent) in
            let same = λ (g : grows ≡ false). after ∙ (ap (λ x. has src (sources_of x)) (cond-false grows (es ++ new ∷ []) es g) ∙ absent) in
            elim (cases_Bool f.rec.start) [
              | inr n ↦
                  let out = same (and_left f.rec.start room n) in
                  record {
                    session = λ y. absurd (both_ways (is_admitted port f log) out y);
                    refused = λ _ y. absurd (both_ways f.rec.start n y);
                    ignored = λ _ _. now ∙ cond-false f.rec.start (cond room (OfSession first) NoSession) (OfSession Ignored) n;
                  }
              | inl s ↦
                  let start = now ∙ cond-true f.rec.start (cond room (OfSession first) NoSession) (OfSession Ignored) s in
                  elim (cases_Bool room) [
                    | inr n ↦
                        let out = same (and_right f.rec.start room n) in
                        record {
                          session = λ y. absurd (both_ways (is_admitted port f log) out y);
                          refused = λ _ _. start ∙ cond-false room (OfSession first) NoSession n;
                          ignored = λ _ y. absurd (both_ways f.rec.start y s);
                        }
                    | inl y ↦
                        let admitted : is_admitted port f log ≡ true =
                        after ∙ (ap (λ x. has src (sources_of x)) (cond-true grows (es ++ new ∷ []) es (and_from f.rec.start room s y))
                        ∙ (ap (has src) (sources_append es new) ∙ (has_append src src (sources_of es) ∙ or_right (has src (sources_of es)) (eqb src src) (eq-eqb src src refl)))) in
                        of_session f log (cond known outcome fresh) first on admitted (start ∙ cond-true room (OfSession first) NoSession y)
                        (session_says f.rec log src (open_session port.extent)
                        (opened crc_more crc_start timeout crc_append port small (history (key_of port.kind port.port src) log) (no_start port.kind port.port src log (unknown port.sources src (sources port.kind port.port log) es st.sources_are (ltb-true (length es) port.sources y) absent))) (open_size crc_more crc_start timeout crc_append port small))
                  ]
            ]
      ]

pub port_simulates : PortSimulates
port_simulates crc_more crc_start timeout crc_append p log es f small st = (
  port_step crc_more crc_start timeout crc_append p small log es f st,
  port_answers crc_more crc_start timeout crc_append p small log es f st,
)

-- the answer of the first port that a frame is on
answer_cond : (crc : List ℕ → ℕ) (timeout : ℕ) (f : KeyedFrame) (log : List KeyedFrame) (b : Bool) (p : Port) (o : Option Port) (u v : Answer) → (b ≡ true → AnswerIs crc timeout p f log u) → AnswerAt crc timeout o f log v → AnswerAt crc timeout (cond b (Some p) o) f log (cond b u v)
answer_cond crc timeout f log true p o u v x y = x refl
answer_cond crc timeout f log false p o u v x y = y

pub table_simulates : TableSimulates
table_simulates crc_more crc_start timeout crc_append log [] f small st = (tt, refl, refl)
table_simulates crc_more crc_start timeout crc_append log (p ∷ ps) f small st =
    let one = port_simulates crc_more crc_start timeout crc_append p.port log p.entries f small.0 st.0 in
    let more = table_simulates crc_more crc_start timeout crc_append log ps f small.1 st.1 in (
      (one.0, more.0),
      ap (λ qs. p.port ∷ qs) more.1,
      answer_cond (crc_more crc_start) timeout f log (is_on p.port.kind p.port.port f) p.port (port_at f.key.kind f.key.port (ports_of ps)) (answer_port crc_more crc_start timeout p.port p.entries f) (answer_table crc_more crc_start timeout ps f) one.1 more.2,
    )

none_parts : (b : Bool) (p : Port) (o : Option Port) → cond b (Some p) o ≡ None → (b ≡ false) × (o ≡ None)
none_parts true p o e = cc
none_parts false p o e = (refl, e)

module _ (crc_more : ℕ → List ℕ → ℕ) (crc_start timeout : ℕ) where
  -- a port that a frame isn't on stays
  port_same : (q : PortState) (f : KeyedFrame) → is_on q.port.kind q.port.port f ≡ false → feed_port crc_more crc_start timeout q.port q.entries f ≡ q.entries
  port_same q f n =
      let src = f.key.source in
      let new : Entry = record { source = src; session = (advance crc_more crc_start timeout (open_session q.port.extent) f.rec).0 } in
      cond-false (is_on q.port.kind q.port.port f) (cond (has src (sources_of q.entries)) (advance_at crc_more crc_start timeout src f.rec q.entries) (cond (f.rec.start && ltb (length q.entries) q.port.sources) (q.entries ++ new ∷ []) q.entries)) q.entries n

  state_path : (port : Port) (es es' : List Entry) (ps ps' : List PortState) → es ≡ es' → ps ≡ ps' → (record { port = port; entries = es } ∷ ps) ≡ (record { port = port; entries = es' } ∷ ps')
  state_path port es es' ps ps' p q = λ i. record { port = port; entries = p i } ∷ q i

  none_fed : (ps : List PortState) (f : KeyedFrame) → port_at f.key.kind f.key.port (ports_of ps) ≡ None → feed_table crc_more crc_start timeout ps f ≡ ps
  none_fed [] f e = refl
  none_fed (q ∷ ps) f e =
      let x = none_parts (is_on q.port.kind q.port.port f) q.port (port_at f.key.kind f.key.port (ports_of ps)) e in
      state_path q.port (feed_port crc_more crc_start timeout q.port q.entries f) q.entries (feed_table crc_more crc_start timeout ps f) ps (port_same q f x.0) (none_fed ps f x.1)

  -- a kind and number that no port of a list has isn't that of a port in it
  apart : (kind : Kind) (port : ℕ) (front back : List PortState) (p : PortState) → port_at kind port (ports_of (front ++ p ∷ back)) ≡ None → (same_kind kind p.port.kind && eqb port p.port.port) ≡ false
  apart kind port [] back p e = (none_parts (same_kind kind p.port.kind && eqb port p.port.port) p.port (port_at kind port (ports_of back)) e).0
  apart kind port (q ∷ front) back p e = apart kind port front back p (none_parts (same_kind kind q.port.kind && eqb port q.port.port) q.port (port_at kind port (ports_of (front ++ p ∷ back))) e).1

  -- two ports that a frame is on have one kind and number
  both_on : (q p : Port) (f : KeyedFrame) → is_on q.kind q.port f ≡ true → is_on p.kind p.port f ≡ true → (same_kind q.kind p.kind && eqb q.port p.port) ≡ true
  both_on q p f x y =
      let a = and_parts (same_kind f.key.kind q.kind) (eqb f.key.port q.port) x in
      let b = and_parts (same_kind f.key.kind p.kind) (eqb f.key.port p.port) y in
      subst (λ k. (same_kind k p.kind && eqb q.port p.port) ≡ true) (same_kind_true f.key.kind q.kind a.0)
      (subst (λ n. (same_kind f.key.kind p.kind && eqb n p.port) ≡ true) (eqb-true f.key.port q.port a.1) y)

  one_fed : (front back : List PortState) (p : PortState) (f : KeyedFrame) → IsPortList (ports_of (front ++ p ∷ back)) → is_on p.port.kind p.port.port f ≡ true
      → (feed_table crc_more crc_start timeout (front ++ p ∷ back) f ≡ front ++ record { port = p.port; entries = feed_port crc_more crc_start timeout p.port p.entries f } ∷ back)
      × (answer_table crc_more crc_start timeout (front ++ p ∷ back) f ≡ answer_port crc_more crc_start timeout p.port p.entries f)
  one_fed [] back p f l on =
      let k = and_parts (same_kind f.key.kind p.port.kind) (eqb f.key.port p.port.port) on in
      let none = subst (λ kind. port_at kind f.key.port (ports_of back) ≡ None) (sym (same_kind_true f.key.kind p.port.kind k.0)) (subst (λ n. port_at p.port.kind n (ports_of back) ≡ None) (sym (eqb-true f.key.port p.port.port k.1)) l.0) in (
        ap (λ ps. record { port = p.port; entries = feed_port crc_more crc_start timeout p.port p.entries f } ∷ ps) (none_fed back f none),
        cond-true (is_on p.port.kind p.port.port f) (answer_port crc_more crc_start timeout p.port p.entries f) (answer_table crc_more crc_start timeout back f) on,
      )
  one_fed (q ∷ front) back p f l on =
      let more = one_fed front back p f l.1 on in
      let off : is_on q.port.kind q.port.port f ≡ false =
      elim (cases_Bool (is_on q.port.kind q.port.port f)) [
        | inr n ↦ n
        | inl y ↦ absurd (both_ways (same_kind q.port.kind p.port.kind && eqb q.port.port p.port.port) (apart q.port.kind q.port.port front back p l.0) (both_on q.port p.port f y on))
      ] in (
        state_path q.port (feed_port crc_more crc_start timeout q.port q.entries f) q.entries (feed_table crc_more crc_start timeout (front ++ p ∷ back) f) (front ++ record { port = p.port; entries = feed_port crc_more crc_start timeout p.port p.entries f } ∷ back) (port_same q f off) more.0,
        cond-false (is_on q.port.kind q.port.port f) (answer_port crc_more crc_start timeout q.port q.entries f) (answer_table crc_more crc_start timeout (front ++ p ∷ back) f) off ∙ more.1,
      )

pub feeds_one : FeedsOne
feeds_one crc_more crc_start timeout front back p f l on = one_fed crc_more crc_start timeout front back p f l on

pub feeds_none : FeedsNone
feeds_none crc_more crc_start timeout ps f e = none_fed crc_more crc_start timeout ps f e
