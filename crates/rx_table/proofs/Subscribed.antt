-- A table with one more subscription.
use Rattle.std.proofs.Common.{◌≡◌, ◌∙◌, ℕ, zero, suc, ◌^◌, ◌<◌, ◌&&◌, Bool, true, false, cond, eqb, List, [], ◌∷◌, ◌++◌, length, take, Option, Some, None, refl, sym, ap, subst, inl, inr, length-append, arith}
use Rattle.std.proofs.lemmas.Bool.{cond-false, cases_Bool, both_ways, eqb-true, eq-eqb, and_parts, and_from}
use Rattle.can_id.specs.declared.key.Kind.{Kind}
use Rattle.transfer_crc.specs.Crc.{crc_of}
use Rattle.rx_table.specs.Keys.{same_kind}
use Rattle.rx_table.specs.Ports.{Port, PortState, ports_of, port_at, IsPortList, TableStands}
use Rattle.rx_table.specs.Laws.{EachPort}
use Rattle.rx_table.specs.declared.port.Port as code
use Rattle.rx_table.specs.Table.{IsPort, IsTable, StandsFor, state_of, states, subscribed}
use Rattle.rx_table.proofs.Sources.{same_kind_true, same_kind_refl}

pub states-append : {S : Type 0} (extent : S → ℕ) (ports : List (code.Port S)) (p : code.Port S) → states extent (ports ++ p ∷ []) ≡ states extent ports ++ state_of extent p ∷ []
states-append extent [] p = refl
states-append extent (o ∷ ports) p = ap (λ (t : List PortState). state_of extent o ∷ t) (states-append extent ports p)

-- ports with another behind them
pub states-after : {S : Type 0} (extent : S → ℕ) (ports new : List (code.Port S)) (p : code.Port S) (q : PortState) → new ≡ ports ++ p ∷ [] → state_of extent p ≡ q → states extent new ≡ states extent ports ++ q ∷ []
states-after extent ports new p q e f = ap (λ t. states extent t) e ∙ (states-append extent ports p ∙ ap (λ (t : PortState). states extent ports ++ t ∷ []) f)

pub length-states : {S : Type 0} (extent : S → ℕ) (ports : List (code.Port S)) → length (ports_of (states extent ports)) ≡ length ports
length-states extent [] = refl
length-states extent (p ∷ ports) = ap suc (length-states extent ports)

ports-append : (ps : List PortState) (p : PortState) → ports_of (ps ++ p ∷ []) ≡ ports_of ps ++ p.port ∷ []
ports-append [] p = refl
ports-append (o ∷ ps) p = ap (λ (t : List Port). o.port ∷ t) (ports-append ps p)

none_parts : (b : Bool) (p : Port) (o : Option Port) → cond b (Some p) o ≡ None → (b ≡ false) × (o ≡ None)
none_parts true p o e = absurd cc
none_parts false p o e = (refl, e)

-- two ports with one kind and number
abbrev Same : Port → Port → Bool
Same p q = same_kind p.kind q.kind && eqb p.port q.port

same_back : (p q : Port) → Same p q ≡ true → Same q p ≡ true
same_back p q e =
    let b = and_parts (same_kind p.kind q.kind) (eqb p.port q.port) e in
    let k = same_kind_true p.kind q.kind b.0 in
    and_from (same_kind q.kind p.kind) (eqb q.port p.port) (subst (λ (t : Kind). same_kind t p.kind ≡ true) k (same_kind_refl p.kind)) (eq-eqb q.port p.port (sym (eqb-true p.port q.port b.1)))

still_none : (kind : Kind) (port : ℕ) (ports : List Port) (q : Port) → port_at kind port ports ≡ None → (same_kind kind q.kind && eqb port q.port) ≡ false → port_at kind port (ports ++ q ∷ []) ≡ None
still_none kind port [] q e n = cond-false (same_kind kind q.kind && eqb port q.port) (Some q) None n
still_none kind port (p ∷ ports) q e n =
    let x = none_parts (same_kind kind p.kind && eqb port p.port) p (port_at kind port ports) e in
    cond-false (same_kind kind p.kind && eqb port p.port) (Some p) (port_at kind port (ports ++ q ∷ [])) x.0 ∙ still_none kind port ports q x.1 n

distinct-append : (ports : List Port) (q : Port) → IsPortList ports → port_at q.kind q.port ports ≡ None → IsPortList (ports ++ q ∷ [])
distinct-append [] q l n = (refl, tt)
distinct-append (p ∷ ports) q l n =
    let x = none_parts (same_kind q.kind p.kind && eqb q.port p.port) p (port_at q.kind q.port ports) n in
    let other : Same p q ≡ false = elim (cases_Bool (Same p q)) [ inl y ↦ absurd (both_ways (Same q p) x.0 (same_back p q y)) | inr e ↦ e ] in
    (still_none p.kind p.port ports q l.0 other, distinct-append ports q l.1 x.1)

each-append : (ports : List Port) (q : Port) → EachPort IsPort ports → IsPort q → EachPort IsPort (ports ++ q ∷ [])
each-append [] q x y = (y, tt)
each-append (p ∷ ports) q x y = (x.0, each-append ports q x.1 y)

none_of : (k : ℕ) → (let none : List ℕ = [] in none) ≡ take k []
none_of zero = refl
none_of (suc k) = refl

stands-append : (timeout : ℕ) (ps : List PortState) (q : Port) → TableStands crc_of timeout [] ps → TableStands crc_of timeout [] (ps ++ subscribed q ∷ [])
stands-append timeout [] q x = (record { sources_are = none_of q.sources; sessions = tt }, tt)
stands-append timeout (p ∷ ps) q x = (x.0, stands-append timeout ps q x.1)

pub stands-subscribed : (timeout : ℕ) (ps : List PortState) (q : Port) → length (ports_of ps) < 2 ^ 16 → IsPort q → port_at q.kind q.port (ports_of ps) ≡ None → StandsFor timeout [] ps → StandsFor timeout [] (ps ++ subscribed q ∷ [])
stands-subscribed timeout ps q room is none st =
    let ports = ports_of ps in
    let n = length-append ports (q ∷ []) in
    record {
      table = subst (λ (t : List Port). IsTable t) (sym (ports-append ps (subscribed q))) (record {
        distinct = distinct-append ports q st.table.distinct none;
        each = each-append ports q st.table.each is;
        few = omega arith;
      });
      sessions = stands-append timeout ps q st.sessions;
    }
