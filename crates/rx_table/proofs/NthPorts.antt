-- One port's change, by its place among a table's ports.
use Rattle.std.proofs.Common.{◌≡◌, ◌∙◌, ℕ, ◌≤◌, List, [], ◌∷◌, zero, suc, Option, Some, refl, sym, ap, subst, map, slice_get, slice_set, length, arith}
use Rattle.std.specs.Option.{option_and_then}
use Rattle.tail_frame.specs.Chains.{KeyRecord}
use Rattle.rx_table.specs.declared.port.Port as code
use Rattle.rx_table.specs.declared.fed.PortMet as code_met
use Rattle.rx_table.specs.Ports.{Port, Entry, PortState, NoPort, ports_of, sources_of}
use Rattle.rx_table.specs.Places.{fed_entries, port_answer, feed_nth, answer_nth, met_answer, met_nth, Adds, AddsNth, source_at, NamesSession}
use Rattle.rx_table.specs.Table.{entries_of, port_of, state_of, states, EntriesHeard, HeardBy}

some_is : {X : Type 0} (x y : X) → Some x ≡ Some y → x ≡ y
some_is x y h = cc

pub state_path : {p q : Port} {es fs : List Entry} → p ≡ q → es ≡ fs → (let s : PortState = record { port = p; entries = es } in s) ≡ record { port = q; entries = fs }
state_path e f = λ i. record { port = e i; entries = f i }

module _ {S : Type 0} (extent : S → ℕ) where
  abbrev entries : code.Port S → List Entry
  entries p = entries_of p.sessions.entries

  pub heard-nth : (now : ℕ) (ports : List (code.Port S)) (i : ℕ) (p : code.Port S) → slice_get ports i ≡ Some p → HeardBy now (states extent ports) → EntriesHeard now (entries p)
  heard-nth now [] i p h x = absurd cc
  heard-nth now (q ∷ ports) zero p h x = subst (λ (s : code.Port S). EntriesHeard now (entries s)) (some_is _ _ h) x.0
  heard-nth now (q ∷ ports) (suc i) p h x = heard-nth now ports i p h x.1

  pub set-ports : (ports : List (code.Port S)) (i : ℕ) (p q : code.Port S) → slice_get ports i ≡ Some p → port_of extent q ≡ port_of extent p → ports_of (states extent (slice_set ports i q)) ≡ ports_of (states extent ports)
  set-ports [] i p q h e = refl
  set-ports (o ∷ ports) zero p q h e = ap (λ (x : Port). x ∷ ports_of (states extent ports)) (e ∙ ap (port_of extent) (sym (some_is _ _ h)))
  set-ports (o ∷ ports) (suc i) p q h e = ap (λ (t : List Port). port_of extent o ∷ t) (set-ports ports i p q h e)

  pub set-shapes : (ports : List (code.Port S)) (i : ℕ) (p q : code.Port S) → slice_get ports i ≡ Some p → q.shape ≡ p.shape → map (λ (x : code.Port S). x.shape) (slice_set ports i q) ≡ map (λ (x : code.Port S). x.shape) ports
  set-shapes [] i p q h e = refl
  set-shapes (o ∷ ports) zero p q h e = ap (λ (x : S). x ∷ map (λ (x : code.Port S). x.shape) ports) (e ∙ ap (λ (x : code.Port S). x.shape) (sym (some_is _ _ h)))
  set-shapes (o ∷ ports) (suc i) p q h e = ap (λ (t : List S). o.shape ∷ t) (set-shapes ports i p q h e)

  pub set-same : (ports : List (code.Port S)) (i : ℕ) (p q : code.Port S) → slice_get ports i ≡ Some p → port_of extent q ≡ port_of extent p → entries q ≡ entries p → states extent (slice_set ports i q) ≡ states extent ports
  set-same [] i p q h e f = refl
  set-same (o ∷ ports) zero p q h e f =
      ap (λ (s : PortState). s ∷ states extent ports) (state_path e f ∙ ap (state_of extent) (sym (some_is _ _ h)))
  set-same (o ∷ ports) (suc i) p q h e f = ap (λ (t : List PortState). state_of extent o ∷ t) (set-same ports i p q h e f)

  pub set-met : (ports : List (code.Port S)) (i : ℕ) (p q : code.Port S) (rec : KeyRecord) (met : code_met.PortMet) → slice_get ports i ≡ Some p → met_nth (states extent (slice_set ports i q)) i rec met ≡ met_answer (entries q) rec met
  set-met [] i p q rec met h = absurd cc
  set-met (o ∷ ports) zero p q rec met h = refl
  set-met (o ∷ ports) (suc i) p q rec met h = set-met ports i p q rec met h

  pub met-some : (ports : List (code.Port S)) (i : ℕ) (p : code.Port S) (rec : KeyRecord) (met : code_met.PortMet) → slice_get ports i ≡ Some p → met_nth (states extent ports) i rec met ≡ met_answer (entries p) rec met
  met-some [] i p rec met h = absurd cc
  met-some (o ∷ ports) zero p rec met h = ap (λ (s : code.Port S). met_answer (entries s) rec met) (some_is _ _ h)
  met-some (o ∷ ports) (suc i) p rec met h = met-some ports i p rec met h

  pub met-none : (ports : List (code.Port S)) (i : ℕ) (rec : KeyRecord) (met : code_met.PortMet) → length ports ≤ i → met_nth (states extent ports) i rec met ≡ NoPort
  met-none [] i rec met le = refl
  met-none (o ∷ ports) zero rec met le = absurd (omega arith)
  met-none (o ∷ ports) (suc i) rec met le = met-none ports i rec met (omega arith)

  state-get : (ports : List (code.Port S)) (i : ℕ) (p : code.Port S) → slice_get ports i ≡ Some p → slice_get (states extent ports) i ≡ Some (state_of extent p)
  state-get [] i p h = absurd cc
  state-get (o ∷ ports) zero p h = ap (λ (s : code.Port S). Some (state_of extent s)) (some_is _ _ h)
  state-get (o ∷ ports) (suc i) p h = state-get ports i p h

  state-set : (ports : List (code.Port S)) (i : ℕ) (p q : code.Port S) → slice_get ports i ≡ Some p → slice_get (states extent (slice_set ports i q)) i ≡ Some (state_of extent q)
  state-set [] i p q h = absurd cc
  state-set (o ∷ ports) zero p q h = refl
  state-set (o ∷ ports) (suc i) p q h = state-set ports i p q h

  -- the source at a place of the port at a place
  pub source-get : (ports : List (code.Port S)) (i index : ℕ) (p : code.Port S) → slice_get ports i ≡ Some p → source_at (states extent ports) i index ≡ slice_get (sources_of (entries p)) index
  source-get ports i index p h = ap (option_and_then (λ (s : PortState). slice_get (sources_of s.entries) index)) (state-get ports i p h)

  pub source-set : (ports : List (code.Port S)) (i index : ℕ) (p q : code.Port S) → slice_get ports i ≡ Some p → source_at (states extent (slice_set ports i q)) i index ≡ slice_get (sources_of (entries q)) index
  source-set ports i index p q h = ap (option_and_then (λ (s : PortState). slice_get (sources_of s.entries) index)) (state-set ports i p q h)

  -- what names a session of the port at a place names it among the ports
  pub names-nth : (source : Option ℕ) (ports : List (code.Port S)) (i : ℕ) (p q : code.Port S) (met : code_met.PortMet) → slice_get ports i ≡ Some p
      → NamesSession source (slice_get (sources_of (entries p))) (slice_get (sources_of (entries q))) met
      → NamesSession source (source_at (states extent ports) i) (source_at (states extent (slice_set ports i q)) i) met
  names-nth source ports i p q met h n =
      let at : Option PortState → ℕ → Option ℕ = λ o index. option_and_then (λ (s : PortState). slice_get (sources_of s.entries) index) o in
      subst (λ (o : Option PortState). NamesSession source (at o) (source_at (states extent (slice_set ports i q)) i) met) (sym (state-get ports i p h))
      (subst (λ (o : Option PortState). NamesSession source (slice_get (sources_of (entries p))) (at o) met) (sym (state-set ports i p q h)) n)

  module _ (timeout source : ℕ) (r : KeyRecord) where
    abbrev fed : code.Port S → PortState
    fed p = record { port = port_of extent p; entries = fed_entries timeout (port_of extent p) (entries p) source r }

    pub set-fed : (ports : List (code.Port S)) (i : ℕ) (p q : code.Port S) → slice_get ports i ≡ Some p → port_of extent q ≡ port_of extent p → entries q ≡ fed_entries timeout (port_of extent p) (entries p) source r
        → states extent (slice_set ports i q) ≡ feed_nth timeout (states extent ports) i source r
    set-fed [] i p q h e f = refl
    set-fed (o ∷ ports) zero p q h e f = ap (λ (s : PortState). s ∷ states extent ports) (state_path e f ∙ ap fed (sym (some_is _ _ h)))
    set-fed (o ∷ ports) (suc i) p q h e f = ap (λ (t : List PortState). state_of extent o ∷ t) (set-fed ports i p q h e f)

    pub port_answer-nth : (ports : List (code.Port S)) (i : ℕ) (p : code.Port S) → slice_get ports i ≡ Some p → port_answer timeout (port_of extent p) (entries p) source r ≡ answer_nth timeout (states extent ports) i source r
    port_answer-nth [] i p h = absurd cc
    port_answer-nth (o ∷ ports) zero p h = ap (λ (x : code.Port S). port_answer timeout (port_of extent x) (entries x) source r) (sym (some_is _ _ h))
    port_answer-nth (o ∷ ports) (suc i) p h = port_answer-nth ports i p h

  pub Adds-nth : (source : ℕ) (r : KeyRecord) (ports : List (code.Port S)) (i : ℕ) (p : code.Port S) → slice_get ports i ≡ Some p → Adds (port_of extent p) (entries p) source r → AddsNth (states extent ports) i source r
  Adds-nth source r [] i p h x = absurd cc
  Adds-nth source r (o ∷ ports) zero p h x = subst (λ (s : code.Port S). Adds (port_of extent s) (entries s) source r) (sym (some_is _ _ h)) x
  Adds-nth source r (o ∷ ports) (suc i) p h x = Adds-nth source r ports i p h x
