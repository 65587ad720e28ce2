-- The port that a frame is on, and why the frame came to what it did.
use Rattle.std.proofs.Common.{◌≡◌, ◌∙◌, ℕ, ◌≤◌, ◌^◌, true, eqb, List, [], ◌∷◌, zero, suc, Option, Some, None, sym, ap, subst, slice_get}
use Rattle.std.specs.Option.{is_some}
use Rattle.std.proofs.lemmas.Bool.{and_parts, eqb-true}
use Rattle.can_id.specs.Identifiers.{key_of as key_of_ident}
use Rattle.can_id.specs.declared.key.Key.{Key}
use Rattle.can_id.specs.declared.key.Kind.{Kind}
use Rattle.tail_frame.specs.Frames.{FrameOf, key_record}
use Rattle.transfer_crc.specs.Crc.{crc_of}
use Rattle.rx_table.specs.Keys.{KeyedFrame, same_kind}
use Rattle.rx_table.specs.Laws.{EachPort}
use Rattle.rx_table.specs.Ports.{Port, PortStands, TableStands, ports_of, port_at}
use Rattle.rx_table.specs.Table.{IsPort, entries_of, keyed, port_of, port_on, states, with_source}
use Rattle.rx_table.specs.declared.port.Port as code
use Rattle.rx_table.proofs.FoundPorts.{FoundAt}
use Rattle.rx_table.proofs.Sources.{same_kind_true}
use Rattle.log_explain.specs.Asked.{IsLast, IsLastAt, IsLastOn, frame_on, listens}
use Rattle.log_explain.specs.Reasons.{aside, no_change, of_frame, of_port, of_source, on_port, or_on_port}
use Rattle.log_explain.specs.declared.reasons.reason.Reason.TheVariants.{Delivered, Unsubscribed}

some_is : {X : Type 0} (x y : X) → Some x ≡ Some y → x ≡ y
some_is x y h = cc

-- what stands of the port at a place
pub record StandsAt {S : Type 0} (extent : S → ℕ) (timeout : ℕ) (log : List KeyedFrame) (p : code.Port S) : Type 0 where
  pub small : (port_of extent p).extent ≤ 2 ^ 29
  pub stands : PortStands crc_of timeout (port_of extent p) log (entries_of p.sessions.entries)

module _ {S : Type 0} (extent : S → ℕ) where
  pub at_nth : (timeout : ℕ) (log : List KeyedFrame) (ports : List (code.Port S)) (i : ℕ) (p : code.Port S) → slice_get ports i ≡ Some p → TableStands crc_of timeout log (states extent ports) → EachPort IsPort (ports_of (states extent ports)) → StandsAt extent timeout log p
  at_nth timeout log [] i p h st each = absurd cc
  at_nth timeout log (q ∷ ports) zero p h st each = subst (λ (o : code.Port S). StandsAt extent timeout log o) (some_is q p h) (record { small = each.0.small; stands = st.0 })
  at_nth timeout log (q ∷ ports) (suc i) p h st each = at_nth timeout log ports i p h st.1 each.1

  pub key_at : (kind : Kind) (port : ℕ) (ports : List (code.Port S)) (i : ℕ) (p : code.Port S) → FoundAt kind port (states extent ports) i → slice_get ports i ≡ Some p → (kind ≡ p.kind) × (port ≡ p.port)
  key_at kind port [] i p x h = absurd x
  key_at kind port (q ∷ ports) zero p x h =
      let b = and_parts (same_kind kind q.kind) (eqb port q.port) x in
      let e = some_is q p h in (
        same_kind_true kind q.kind b.0 ∙ ap (λ (o : code.Port S). o.kind) e,
        eqb-true port q.port b.1 ∙ ap (λ (o : code.Port S). o.port) e,
      )
  key_at kind port (q ∷ ports) (suc i) p x h = key_at kind port ports i p x.1 h

-- a frame that is for the node
module _ (own timeout : ℕ) (f : FrameOf) (key : Key) (is : key ≡ key_of_ident f.ident) (ports : List Port) (log : List KeyedFrame) (n : aside own f.ident ≡ None) where
  on_is : (o : Option Port) → port_at key.kind key.port ports ≡ o → port_on ports f ≡ o
  on_is o e = ap (λ (k : Key). port_at k.kind k.port ports) (sym is) ∙ e

  keyed_is : (o : Option ℕ) → key.source ≡ o → keyed f ≡ with_source key.kind key.port o f
  keyed_is o e = ap (λ (k : Key). with_source k.kind k.port k.source f) (sym is) ∙ ap (λ (s : Option ℕ). with_source key.kind key.port s f) e

  reason_is : (o : Option Port) → port_at key.kind key.port ports ≡ o → of_port timeout f log o ≡ of_frame (listens own timeout ports) f log
  reason_is o e = sym (ap (or_on_port (listens own timeout ports) f log) n ∙ ap (of_port timeout f log) (on_is o e))

  pub nowhere : port_at key.kind key.port ports ≡ None → Unsubscribed ≡ of_frame (listens own timeout ports) f log
  nowhere e = reason_is None e

  alone : (p : Port) → port_at key.kind key.port ports ≡ Some p → key.source ≡ None → Delivered f.line no_change ≡ of_frame (listens own timeout ports) f log
  alone p e s = sym (ap (on_port timeout p f log) (keyed_is None s)) ∙ reason_is (Some p) e

  pub alone_on : (o : Option Port) → port_at key.kind key.port ports ≡ o → is_some o ≡ true → key.source ≡ None → Delivered f.line no_change ≡ of_frame (listens own timeout ports) f log
  alone_on None e y s = absurd cc
  alone_on (Some p) e y s = alone p e s

  pub sourced : (p : Port) (source : ℕ) → port_at key.kind key.port ports ≡ Some p → key.source ≡ Some source → of_source timeout p (frame_on key.kind key.port source (key_record f)) log ≡ of_frame (listens own timeout ports) f log
  sourced p source e s = sym (ap (on_port timeout p f log) (keyed_is (Some source) s)) ∙ reason_is (Some p) e

  pub last_on : (last : ℕ) (p : Port) (source : ℕ) → port_at key.kind key.port ports ≡ Some p → key.source ≡ Some source → IsLast (listens own timeout ports) f log last → IsLastOn timeout p (frame_on key.kind key.port source (key_record f)) log last
  last_on last p source e s l =
      subst (λ (k : Option KeyedFrame). IsLastAt timeout log last (Some p) k) (keyed_is (Some source) s)
      (subst (λ (o : Option Port). IsLastAt timeout log last o (keyed f)) (on_is (Some p) e) l)
