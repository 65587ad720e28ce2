-- One line more is counted at the slot of its session.
use Rattle.std.proofs.Common.{◌≡◌, ◌∙◌, ℕ, ◌<◌, ◌≤◌, Bool, true, false, cond, ◌&&◌, eqb, List, [], ◌∷◌, length, zero, suc, Option, Some, None, option_map, refl, sym, ap, subst, inl, inr, position, slice_get, set, arith}
use Rattle.std.proofs.lemmas.Bool.{cases_Bool, and_from, and_parts, both_ways, cond-false, cond-true, eq-eqb, eqb-true}
use Rattle.can_id.specs.declared.key.Key.{Key}
use Rattle.can_id.specs.declared.key.Kind.{Kind}
use Rattle.rx_table.specs.Admitted.{key_of as session_key}
use Rattle.rx_table.specs.Keys.{same_kind}
use Rattle.rx_table.specs.Ports.{IsPortList, Port, port_at}
use Rattle.rx_table.proofs.FoundPorts.{IsAt}
use Rattle.rx_table.proofs.Positions.{position-further, position-here, position-lowered}
use Rattle.rx_table.proofs.Sources.{same_kind_refl, same_kind_true}
use Rattle.log_explain.specs.Counts.{counts}
use Rattle.log_explain.specs.Lines.{is_in, is_source, of_session}
use Rattle.log_explain.specs.Slots.{AreCounted, slot_for, slot_from}
use Rattle.log_explain.specs.Places.{slot_at}
use Rattle.log_explain.specs.declared.line.FrameLine.{FrameLine}
use Rattle.log_explain.specs.declared.line.Transfer.{Transfer}
use Rattle.log_explain.specs.declared.tally.Tally.{Tally}

some_is : {X : Type 0} (x y : X) → Some x ≡ Some y → x ≡ y
some_is x y h = cc

is_at : (p : Port) → IsAt p.kind p.port p ≡ true
is_at p = and_from (same_kind p.kind p.kind) (eqb p.port p.port) (same_kind_refl p.kind) (eq-eqb p.port p.port refl)

-- a port of a list is found in it
there : (ports : List Port) (i : ℕ) (p : Port) → slice_get ports i ≡ Some p → port_at p.kind p.port ports ≡ None → ⊥
there [] i p h n = absurd cc
there (q ∷ ports) zero p h n =
    let e = some_is q p h in
    let found : Some q ≡ None = sym (cond-true (IsAt p.kind p.port q) (Some q) (port_at p.kind p.port ports) (subst (λ (o : Port). IsAt p.kind p.port o ≡ true) (sym e) (is_at p))) ∙ n in cc
there (q ∷ ports) (suc i) p h n =
    elim (cases_Bool (IsAt p.kind p.port q)) [
      | inl y ↦ (let found : Some q ≡ None = sym (cond-true (IsAt p.kind p.port q) (Some q) (port_at p.kind p.port ports) y) ∙ n in absurd cc)
      | inr k ↦ there ports i p h (sym (cond-false (IsAt p.kind p.port q) (Some q) (port_at p.kind p.port ports) k) ∙ n)
    ]

-- no earlier port of a list of distinct ones has its kind and number
earlier : (q : Port) (ports : List Port) (i : ℕ) (p : Port) → port_at q.kind q.port ports ≡ None → slice_get ports i ≡ Some p → IsAt p.kind p.port q ≡ false
earlier q ports i p none h =
    elim (cases_Bool (IsAt p.kind p.port q)) as (λ _. IsAt p.kind p.port q ≡ false) [
      | inr k ↦ k
      | inl y ↦
          (let b = and_parts (same_kind p.kind q.kind) (eqb p.port q.port) y in
          let kind : p.kind ≡ q.kind = same_kind_true p.kind q.kind b.0 in
          let port : p.port ≡ q.port = eqb-true p.port q.port b.1 in
          absurd (there ports i p h ((λ j. port_at (kind j) (port j) ports) ∙ none)))
    ]

pub nth_position : (ports : List Port) (i : ℕ) (p : Port) → IsPortList ports → slice_get ports i ≡ Some p → position (IsAt p.kind p.port) ports ≡ Some i
nth_position [] i p l h = absurd cc
nth_position (q ∷ ports) zero p l h = position-here (IsAt p.kind p.port) q ports (subst (λ (o : Port). IsAt p.kind p.port o ≡ true) (sym (some_is q p h)) (is_at p))
nth_position (q ∷ ports) (suc i) p l h = position-further (IsAt p.kind p.port) q ports (earlier q ports i p l.0 h) ∙ ap (option_map suc) (nth_position ports i p l.1 h)

pub nth_port_at : (ports : List Port) (i : ℕ) (p : Port) → IsPortList ports → slice_get ports i ≡ Some p → port_at p.kind p.port ports ≡ Some p
nth_port_at [] i p l h = absurd cc
nth_port_at (q ∷ ports) zero p l h =
    cond-true (IsAt p.kind p.port q) (Some q) (port_at p.kind p.port ports) (subst (λ (o : Port). IsAt p.kind p.port o ≡ true) (sym (some_is q p h)) (is_at p)) ∙ h
nth_port_at (q ∷ ports) (suc i) p l h =
    cond-false (IsAt p.kind p.port q) (Some q) (port_at p.kind p.port ports) (earlier q ports i p l.0 h) ∙ nth_port_at ports i p l.1 h

-- at the place of a kind and number there is a port with them
pub record PortAt (ports : List Port) (place : ℕ) (kind : Kind) (port : ℕ) : Type 0 where
  pub p : Port
  pub there_is : slice_get ports place ≡ Some p
  pub kind_is : kind ≡ p.kind
  pub port_is : port ≡ p.port

pub at_position : (ports : List Port) (kind : Kind) (port place : ℕ) → position (IsAt kind port) ports ≡ Some place → PortAt ports place kind port
at_position [] kind port place h = absurd cc
at_position (q ∷ ports) kind port place h = go (λ i k. at_position ports kind port i k) (IsAt kind port q) refl
  where
    go : ((i : ℕ) → position (IsAt kind port) ports ≡ Some i → PortAt ports i kind port) → (b : Bool) → IsAt kind port q ≡ b → PortAt (q ∷ ports) place kind port
    go more true t =
        let at : place ≡ 0 = let k : Some 0 ≡ Some place = sym (position-here (IsAt kind port) q ports t) ∙ h in cc in
        let b = and_parts (same_kind kind q.kind) (eqb port q.port) t in
        subst (λ (n : ℕ). PortAt (q ∷ ports) n kind port) (sym at) (record { p = q; there_is = refl; kind_is = same_kind_true kind q.kind b.0; port_is = eqb-true port q.port b.1 })
    go more false t =
        let k = position-lowered (position (IsAt kind port) ports) place (sym (position-further (IsAt kind port) q ports t) ∙ h) in
        let m = more k.0 k.1 in
        subst (λ (n : ℕ). PortAt (q ∷ ports) n kind port) (sym k.2) (record { p = m.p; there_is = m.there_is; kind_is = m.kind_is; port_is = m.port_is })

-- writing at a slot
get_set : {X : Type 0} (xs : List X) (i : ℕ) (v x : X) → slice_get xs i ≡ Some x → slice_get (set xs i v) i ≡ Some v
get_set [] i v x h = absurd cc
get_set (y ∷ xs) zero v x h = refl
get_set (y ∷ xs) (suc i) v x h = get_set xs i v x h

get_set_other : {X : Type 0} (xs : List X) (i j : ℕ) (v : X) → (i ≡ j → ⊥) → slice_get (set xs i v) j ≡ slice_get xs j
get_set_other [] i j v n = refl
get_set_other (y ∷ xs) zero zero v n = absurd (n refl)
get_set_other (y ∷ xs) zero (suc j) v n = refl
get_set_other (y ∷ xs) (suc i) zero v n = refl
get_set_other (y ∷ xs) (suc i) (suc j) v n = get_set_other xs i j v (λ e. n (ap suc e))

pub of_session_few : (all : List FrameLine) (kind : Kind) (port source : ℕ) → length (of_session (session_key kind port source) all) ≤ length all
of_session_few [] kind port source = omega arith
of_session_few (line ∷ all) kind port source = go (is_in (session_key kind port source) line.transfer) (of_session_few all kind port source)
  where
    go : (b : Bool) → length (of_session (session_key kind port source) all) ≤ length all → length (cond b (line ∷ of_session (session_key kind port source) all) (of_session (session_key kind port source) all)) ≤ length (line ∷ all)
    go true h = omega (arith, h)
    go false h = omega (arith, h)

-- a line with this key
module _ (ports : List Port) (distinct : IsPortList ports) (old : List Tally) (line : FrameLine) (t : Transfer) (is : line.transfer ≡ Some t) (all : List FrameLine) (c : AreCounted ports old all) where
  abbrev q : Key
  q = t.key

  -- which session it is of
  in_is : (p : Port) (source : ℕ) → is_in (session_key p.kind p.port source) line.transfer ≡ (same_kind q.kind p.kind && ((eqb q.port p.port) && is_source source q.source))
  in_is p source = ap (is_in (session_key p.kind p.port source)) is

  skipped : (p : Port) (source : ℕ) → is_in (session_key p.kind p.port source) line.transfer ≡ false → counts (of_session (session_key p.kind p.port source) all) ≡ counts (of_session (session_key p.kind p.port source) (line ∷ all))
  skipped p source n =
      let key = session_key p.kind p.port source in ap counts (sym (cond-false (is_in key line.transfer) (line ∷ of_session key all) (of_session key all) n))

  -- it is of no session
  pub uncounted : slot_for ports q ≡ None → AreCounted ports old (line ∷ all)
  uncounted none place source p h few =
      let key = session_key p.kind p.port source in
      c place source p h few ∙ ap Some (skipped p source (elim (cases_Bool (is_in key line.transfer)) as (λ _. is_in key line.transfer ≡ false) [
        | inr k ↦ k
        | inl y ↦ absurd (go q.source refl (sym (in_is p source) ∙ y))
      ]))
    where
      slot_from_is : (s : ℕ) → q.source ≡ Some s → slot_for ports q ≡ option_map (λ n. slot_at n s) (position (IsAt q.kind q.port) ports)
      slot_from_is s e = ap (slot_from ports q) e

      go : (o : Option ℕ) → q.source ≡ o → (same_kind q.kind p.kind && ((eqb q.port p.port) && is_source source q.source)) ≡ true → ⊥
      go None e y =
          let b = and_parts (same_kind q.kind p.kind) ((eqb q.port p.port) && is_source source q.source) y in
          let d = and_parts (eqb q.port p.port) (is_source source q.source) b.1 in
          let x : false ≡ true = sym (ap (is_source source) e) ∙ d.1 in absurd cc
      go (Some s) e y =
          let b = and_parts (same_kind q.kind p.kind) ((eqb q.port p.port) && is_source source q.source) y in
          let d = and_parts (eqb q.port p.port) (is_source source q.source) b.1 in
          let kind : q.kind ≡ p.kind = same_kind_true q.kind p.kind b.0 in
          let port : q.port ≡ p.port = eqb-true q.port p.port d.0 in
          let at : position (IsAt q.kind q.port) ports ≡ Some place = (λ i. position (IsAt (kind i) (port i)) ports) ∙ nth_position ports place p distinct h in
          let x : None ≡ Some (slot_at place s) = sym none ∙ (slot_from_is s e ∙ ap (option_map (λ n. slot_at n s)) at) in absurd cc

  -- it is of the session of a source on the port at a place
  module _ (place s : ℕ) (source_is : q.source ≡ Some s) (few : s < 128) (at : PortAt ports place q.kind q.port) where
    abbrev p0 : Port
    p0 = at.p

    abbrev slot : ℕ
    slot = slot_at place s

    abbrev mine : List FrameLine
    mine = of_session (session_key p0.kind p0.port s) all

    was : slice_get old slot ≡ Some (counts mine)
    was = c place s p0 at.there_is few

    same_places : (place2 s2 : ℕ) → s2 < 128 → slot ≡ slot_at place2 s2 → (place ≡ place2) × (s ≡ s2)
    same_places place2 s2 f e = (omega (arith, few, f, e), omega (arith, few, f, e))

    in_own : is_in (session_key p0.kind p0.port s) line.transfer ≡ true
    in_own =
        in_is p0 s
        ∙ ((λ i. same_kind (at.kind_is i) p0.kind && ((eqb (at.port_is i) p0.port) && is_source s (source_is i)))
        ∙ and_from (same_kind p0.kind p0.kind) _ (same_kind_refl p0.kind) (and_from (eqb p0.port p0.port) _ (eq-eqb p0.port p0.port refl) (eq-eqb s s refl)))

    pub counted : (new : List Tally) → new ≡ set old slot (counts (line ∷ mine)) → AreCounted ports new (line ∷ all)
    counted new e place2 s2 p h f =
        let key = session_key p.kind p.port s2 in
        let b = is_in key line.transfer in
        let rest = of_session key all in
        let rewritten = λ (n : ℕ). ap (λ (xs : List Tally). slice_get xs n) e in
        elim (cases_Bool b) as (λ _. slice_get new (slot_at place2 s2) ≡ Some (counts (cond b (line ∷ rest) rest))) [
          | inl y ↦
              (let parts = and_parts (same_kind q.kind p.kind) ((eqb q.port p.port) && is_source s2 q.source) (sym (in_is p s2) ∙ y) in
              let more = and_parts (eqb q.port p.port) (is_source s2 q.source) parts.1 in
              let kind : q.kind ≡ p.kind = same_kind_true q.kind p.kind parts.0 in
              let port : q.port ≡ p.port = eqb-true q.port p.port more.0 in
              let source : s ≡ s2 = eqb-true s s2 (sym (ap (is_source s2) source_is) ∙ more.1) in
              let one : position (IsAt q.kind q.port) ports ≡ Some place2 = (λ i. position (IsAt (kind i) (port i)) ports) ∙ nth_position ports place2 p distinct h in
              let other : position (IsAt q.kind q.port) ports ≡ Some place = (λ i. position (IsAt (at.kind_is i) (at.port_is i)) ports) ∙ nth_position ports place p0 distinct at.there_is in
              let place_is : place ≡ place2 = some_is place place2 (sym other ∙ one) in
              let port_is : p0 ≡ p = some_is p0 p (sym at.there_is ∙ (ap (slice_get ports) place_is ∙ h)) in
              let slot_is : slot_at place2 s2 ≡ slot = λ i. slot_at (sym place_is i) (sym source i) in
              rewritten (slot_at place2 s2)
              ∙ (ap (slice_get (set old slot (counts (line ∷ mine)))) slot_is
              ∙ (get_set old slot (counts (line ∷ mine)) (counts mine) was
              ∙ ((λ i. Some (counts (line ∷ of_session (session_key (port_is i).kind (port_is i).port (source i)) all)))
              ∙ ap (λ (x : List FrameLine). Some (counts x)) (sym (cond-true b (line ∷ rest) rest y))))))
          | inr n ↦
              (let apart : slot ≡ slot_at place2 s2 → ⊥ = λ same.
              (let both = same_places place2 s2 f same in
              let port_is : p0 ≡ p = some_is p0 p (sym at.there_is ∙ (ap (slice_get ports) both.0 ∙ h)) in
              both_ways b n (subst (λ (o : Port). is_in (session_key o.kind o.port s2) line.transfer ≡ true) port_is (subst (λ (m : ℕ). is_in (session_key p0.kind p0.port m) line.transfer ≡ true) both.1 in_own))) in
              rewritten (slot_at place2 s2)
              ∙ (get_set_other old slot (slot_at place2 s2) (counts (line ∷ mine)) apart
              ∙ (c place2 s2 p h f ∙ ap (λ (x : List FrameLine). Some (counts x)) (sym (cond-false b (line ∷ rest) rest n)))))
        ]
