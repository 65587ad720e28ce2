-- The port that a frame is on, by its place among a table's ports.
use Rattle.std.proofs.Common.{◌≡◌, ◌∙◌, ℕ, ◌+◌, ◌^◌, ◌<◌, ◌&&◌, Bool, true, false, eqb, List, [], ◌∷◌, zero, suc, Option, Some, None, refl, sym, ap, subst, inl, inr, position, slice_get, option_map, length, arith}
use Rattle.std.proofs.lemmas.Bool.{eqb-true, and_parts, cond-true, cond-false, cases_Bool}
use Rattle.std.specs.Option.{is_some}
use Rattle.can_id.specs.declared.key.Kind.{Kind}
use Rattle.transfer_crc.specs.Crc.{crc_more, crc_of}
use Rattle.transfer_crc.proofs.Rows.{crc_more-append}
use Rattle.rx_table.specs.Keys.{KeyedFrame, same_kind}
use Rattle.rx_table.specs.Admitted.{has, is_on}
use Rattle.rx_table.specs.Ports.{Port, Entry, PortState, Answer, NoSession, OfSession, sources_of, ports_of, port_at, IsPortList, is_admitted, outcome_at, answer_port, feed_table, answer_table, TableStands, AnswerIs}
use Rattle.rx_table.specs.Laws.{EachPort}
use Rattle.rx_table.specs.Places.{opened_answer, fed_entries, feed_nth, answer_nth, AddsNth}
use Rattle.rx_table.specs.declared.port.Port as code
use Rattle.rx_table.specs.Table.{port_of, states, OpensAt, shape_at}
use Rattle.rx_table.proofs.Sources.{same_kind_true}
use Rattle.rx_table.proofs.Tables.{port_simulates, feeds_none}
use Rattle.rx_table.proofs.NewSources.{room-answer}
use Rattle.rx_table.proofs.Positions.{position-further, position-here, position-lowered, position-none_below}

some_is : {X : Type 0} (x y : X) → Some x ≡ Some y → x ≡ y
some_is x y h = cc

pub none_is : {X : Type 0} (o : Option X) → is_some o ≡ false → o ≡ None
none_is None e = refl
none_is (Some x) e = absurd cc

-- whether a port has a kind and number
abbrev pub IsAt : Kind → ℕ → Port → Bool
IsAt kind port p = same_kind kind p.kind && eqb port p.port

-- the port at a place is the first one with that kind and number
abbrev pub FoundAt : Kind → ℕ → List PortState → ℕ → Type 0
FoundAt kind port [] i = ⊥
FoundAt kind port (p ∷ ps) zero = IsAt kind port p.port ≡ true
FoundAt kind port (p ∷ ps) (suc i) = (IsAt kind port p.port ≡ false) × FoundAt kind port ps i

found_there : (kind : Kind) (port : ℕ) (ps : List PortState) (i : ℕ) → FoundAt kind port ps i → true ≡ is_some (port_at kind port (ports_of ps))
found_there kind port [] i x = absurd x
found_there kind port (p ∷ ps) zero x = ap is_some (sym (cond-true (IsAt kind port p.port) (Some p.port) (port_at kind port (ports_of ps)) x))
found_there kind port (p ∷ ps) (suc i) x = found_there kind port ps i x.1 ∙ ap is_some (sym (cond-false (IsAt kind port p.port) (Some p.port) (port_at kind port (ports_of ps)) x.0))

found_some : (kind : Kind) (port : ℕ) (ps : List PortState) (i : ℕ) → FoundAt kind port ps i → port_at kind port (ports_of ps) ≡ None → ⊥
found_some kind port [] i x n = x
found_some kind port (p ∷ ps) zero x n = let e = sym n ∙ cond-true (IsAt kind port p.port) (Some p.port) (port_at kind port (ports_of ps)) x in cc
found_some kind port (p ∷ ps) (suc i) x n =
    found_some kind port ps i x.1 (sym (cond-false (IsAt kind port p.port) (Some p.port) (port_at kind port (ports_of ps)) x.0) ∙ n)

module _ {S : Type 0} (extent : S → ℕ) (kind : Kind) (port : ℕ) where
  abbrev test : code.Port S → Bool
  test p = same_kind kind p.kind && eqb port p.port

  pub not_found : (ports : List (code.Port S)) → position test ports ≡ None → port_at kind port (ports_of (states extent ports)) ≡ None
  not_found [] h = refl
  not_found (p ∷ ports) h = go (λ k. not_found ports k) (test p) refl
    where
      go : (position test ports ≡ None → port_at kind port (ports_of (states extent ports)) ≡ None) → (b : Bool) → test p ≡ b → port_at kind port (ports_of (states extent (p ∷ ports))) ≡ None
      go more true t = absurd (let k : Some 0 ≡ None = sym (position-here test p ports t) ∙ h in cc)
      go more false t =
          cond-false (test p) (Some (port_of extent p)) (port_at kind port (ports_of (states extent ports))) t
          ∙ more (position-none_below (position test ports) (sym (position-further test p ports t) ∙ h))

  pub found : (ports : List (code.Port S)) (i : ℕ) → position test ports ≡ Some i → FoundAt kind port (states extent ports) i
  found [] i h = absurd cc
  found (p ∷ ports) i h = go (λ j k. found ports j k) (test p) refl
    where
      go : ((j : ℕ) → position test ports ≡ Some j → FoundAt kind port (states extent ports) j) → (b : Bool) → test p ≡ b → FoundAt kind port (states extent (p ∷ ports)) i
      go more true t =
          let at : i ≡ 0 = let k : Some 0 ≡ Some i = sym (position-here test p ports t) ∙ h in cc in
          subst (λ n. FoundAt kind port (states extent (p ∷ ports)) n) (sym at) t
      go more false t =
          let k = position-lowered (position test ports) i (sym (position-further test p ports t) ∙ h) in
          subst (λ n. FoundAt kind port (states extent (p ∷ ports)) n) (sym k.2) (t, more k.0 k.1)

  -- the place of a port among the subscriptions
  pub position-ports : (ports : List (code.Port S)) → position test ports ≡ position (IsAt kind port) (ports_of (states extent ports))
  position-ports [] = refl
  position-ports (p ∷ ports) = go (position-ports ports) (test p) refl
    where
      go : position test ports ≡ position (IsAt kind port) (ports_of (states extent ports)) → (b : Bool) → test p ≡ b → position test (p ∷ ports) ≡ position (IsAt kind port) (ports_of (states extent (p ∷ ports)))
      go more true t = position-here test p ports t ∙ sym (position-here (IsAt kind port) (port_of extent p) (ports_of (states extent ports)) t)
      go more false t =
          position-further test p ports t
          ∙ (ap (option_map suc) more
          ∙ sym (position-further (IsAt kind port) (port_of extent p) (ports_of (states extent ports)) t))

  -- and so it stays where these stay
  pub place_stays : (old new : List (code.Port S)) → ports_of (states extent new) ≡ ports_of (states extent old) → position test new ≡ position test old
  place_stays old new same = position-ports new ∙ (ap (position (IsAt kind port)) same ∙ sym (position-ports old))

  pub found_within : (ports : List (code.Port S)) (i : ℕ) → FoundAt kind port (states extent ports) i → i < length ports
  found_within [] i x = absurd x
  found_within (p ∷ ports) zero x = omega arith
  found_within (p ∷ ports) (suc i) x = let more = found_within ports i x.1 in omega arith

  pub found_port : (ports : List (code.Port S)) (i : ℕ) (p : code.Port S) → FoundAt kind port (states extent ports) i → slice_get ports i ≡ Some p → port_at kind port (ports_of (states extent ports)) ≡ Some (port_of extent p)
  found_port [] i p x h = absurd x
  found_port (o ∷ ports) zero p x h =
      cond-true (test o) (Some (port_of extent o)) (port_at kind port (ports_of (states extent ports))) x ∙ ap (λ (s : code.Port S). Some (port_of extent s)) (some_is _ _ h)
  found_port (o ∷ ports) (suc i) p x h =
      cond-false (test o) (Some (port_of extent o)) (port_at kind port (ports_of (states extent ports))) x.0 ∙ found_port ports i p x.1 h

  pub shape_found : (ports : List (code.Port S)) (i : ℕ) (p : code.Port S) → FoundAt kind port (states extent ports) i → slice_get ports i ≡ Some p → shape_at kind port ports ≡ Some p.shape
  shape_found [] i p x h = absurd x
  shape_found (o ∷ ports) zero p x h =
      cond-true (test o) (Some o.shape) (shape_at kind port ports) x ∙ ap (λ (s : code.Port S). Some s.shape) (some_is _ _ h)
  shape_found (o ∷ ports) (suc i) p x h = cond-false (test o) (Some o.shape) (shape_at kind port ports) x.0 ∙ shape_found ports i p x.1 h

  pub shape_none : (ports : List (code.Port S)) → position test ports ≡ None → shape_at kind port ports ≡ None
  shape_none [] h = refl
  shape_none (p ∷ ports) h = go (λ k. shape_none ports k) (test p) refl
    where
      go : (position test ports ≡ None → shape_at kind port ports ≡ None) → (b : Bool) → test p ≡ b → shape_at kind port (p ∷ ports) ≡ None
      go more true t = absurd (let k : Some 0 ≡ None = sym (position-here test p ports t) ∙ h in cc)
      go more false t = cond-false (test p) (Some p.shape) (shape_at kind port ports) t ∙ more (position-none_below (position test ports) (sym (position-further test p ports t) ∙ h))

  -- a place is found exactly where the kind and number is there
  pub taken : (ports : List (code.Port S)) (o : Option ℕ) → position test ports ≡ o → is_some o ≡ true → port_at kind port (ports_of (states extent ports)) ≡ None → ⊥
  taken ports None e t n = absurd cc
  taken ports (Some i) e t n = found_some kind port (states extent ports) i (found ports i e) n

  pub is_there : (ports : List (code.Port S)) (o : Option ℕ) → position test ports ≡ o → is_some o ≡ is_some (port_at kind port (ports_of (states extent ports)))
  is_there ports None e = ap is_some (sym (not_found ports e))
  is_there ports (Some i) e = found_there kind port (states extent ports) i (found ports i e)

  pub not_taken : (ports : List (code.Port S)) (o : Option ℕ) → position test ports ≡ o → is_some o ≡ false → port_at kind port (ports_of (states extent ports)) ≡ None
  not_taken ports None e t = not_found ports e
  not_taken ports (Some i) e t = absurd cc

state_path : (port : Port) {es fs : List Entry} {ps qs : List PortState} → es ≡ fs → ps ≡ qs → (let s : PortState = record { port = port; entries = es } in s ∷ ps) ≡ (record { port = port; entries = fs } ∷ qs)
state_path port e f = λ i. record { port = port; entries = e i } ∷ f i

-- no other port is on a frame
none_after : (p : Port) (ports : List Port) (k : KeyedFrame) → port_at p.kind p.port ports ≡ None → is_on p.kind p.port k ≡ true → port_at k.key.kind k.key.port ports ≡ None
none_after p ports k none on =
    let b = and_parts (same_kind k.key.kind p.kind) (eqb k.key.port p.port) on in
    subst (λ kind. port_at kind k.key.port ports ≡ None) (sym (same_kind_true k.key.kind p.kind b.0))
    (subst (λ n. port_at p.kind n ports ≡ None) (sym (eqb-true k.key.port p.port b.1)) none)

module _ (timeout : ℕ) (k : KeyedFrame) where
  abbrev Found : List PortState → ℕ → Type 0
  Found ps i = FoundAt k.key.kind k.key.port ps i

  pub feed-found : (ps : List PortState) (i : ℕ) → IsPortList (ports_of ps) → Found ps i → feed_nth timeout ps i k.key.source k.rec ≡ feed_table crc_more 0xFFFF timeout ps k
  feed-found [] i l x = absurd x
  feed-found (p ∷ ps) zero l x =
      state_path p.port (sym (cond-true (is_on p.port.kind p.port.port k) (fed_entries timeout p.port p.entries k.key.source k.rec) p.entries x))
      (sym (feeds_none crc_more 0xFFFF timeout ps k (none_after p.port (ports_of ps) k l.0 x)))
  feed-found (p ∷ ps) (suc i) l x =
      state_path p.port (sym (cond-false (is_on p.port.kind p.port.port k) (fed_entries timeout p.port p.entries k.key.source k.rec) p.entries x.0)) (feed-found ps i l.1 x.1)

  pub answer-found : (ps : List PortState) (i : ℕ) → Found ps i → answer_nth timeout ps i k.key.source k.rec ≡ answer_table crc_more 0xFFFF timeout ps k
  answer-found [] i x = absurd x
  answer-found (p ∷ ps) zero x =
      sym (cond-true (is_on p.port.kind p.port.port k) (answer_port crc_more 0xFFFF timeout p.port p.entries k) (answer_table crc_more 0xFFFF timeout ps k) x)
  answer-found (p ∷ ps) (suc i) x =
      answer-found ps i x.1 ∙ sym (cond-false (is_on p.port.kind p.port.port k) (answer_port crc_more 0xFFFF timeout p.port p.entries k) (answer_table crc_more 0xFFFF timeout ps k) x.0)

  -- an answer of a session isn't a refusal
  admits : (p : Port) (log : List KeyedFrame) (answer : Answer) → AnswerIs crc_of timeout p k log answer → k.rec.start ≡ true → (o : Answer) → answer ≡ o → (o ≡ NoSession → ⊥) → is_admitted p k log ≡ true
  admits p log answer x start o e other =
      elim (cases_Bool (is_admitted p k log)) [ inl y ↦ y | inr n ↦ absurd (other (sym e ∙ x.refused n start)) ]

  pub opens-found : (log : List KeyedFrame) (ps : List PortState) (i : ℕ) → EachPort (λ p. p.extent + 2 < 2 ^ 64) (ports_of ps) → TableStands crc_of timeout log ps → Found ps i → AddsNth ps i k.key.source k.rec
      → OpensAt (port_at k.key.kind k.key.port (ports_of ps)) (Some k) log
  opens-found log [] i small st x a = absurd x
  opens-found log (p ∷ ps) zero small st x a =
      let es = p.entries in
      let source = k.key.source in
      let one = port_simulates crc_more 0xFFFF timeout crc_more-append p.port log es k small.0 st.0 in
      let answer = cond-false (has source (sources_of es)) (OfSession (outcome_at crc_more 0xFFFF timeout source k.rec es)) (opened_answer timeout p.port es k.rec) a.absent
      ∙ room-answer timeout p.port k.rec es a.start a.room in
      subst (λ (o : Option Port). OpensAt o (Some k) log)
      (sym (cond-true (is_on p.port.kind p.port.port k) (Some p.port) (port_at k.key.kind k.key.port (ports_of ps)) x))
      (ap (has source) (sym st.0.sources_are) ∙ a.absent, admits p.port log (answer_port crc_more 0xFFFF timeout p.port es k) (one.1 x) a.start _ answer (λ e. cc))
  opens-found log (p ∷ ps) (suc i) small st x a =
      subst (λ (o : Option Port). OpensAt o (Some k) log)
      (sym (cond-false (is_on p.port.kind p.port.port k) (Some p.port) (port_at k.key.kind k.key.port (ports_of ps)) x.0))
      (opens-found log ps i small.1 st.1 x.1 a)
