use Rattle.std.proofs.Common.{◌∙◌, ℕ, sym, ap₂, refl, subst, List, [], arith}
use Rattle.rx_session.specs.Extents.{extent_bytes}
use Rattle.can_id.specs.declared.key.Kind.{Kind}
use Rattle.rx_table.specs.SubjectPlaces.{place_of}
use Rattle.rx_table.specs.Ports.{Port, PortState}
use Rattle.rx_table.specs.Table.{states, StandsFor, HeardBy}
use Rattle.rx_table.proofs.FoundPorts.{taken, not_taken, none_is}
use Rattle.rx_table.proofs.Heard.{heard-subscribed}
use Rattle.rx_table.proofs.SubjectPlaces.{position-place}
use Rattle.rx_table.proofs.Subscribed.{states-after, length-states, stands-subscribed}
use Rattle.rx_table.proofs.table.Table.subscribe.Goals as goal

pub returns-then-is_some-clause-taken : goal.returns-then-is_some-clause-taken
returns-then-is_some-clause-taken g c = (
  λ _ n. taken (extent_bytes g.S.Shape.shape) c.args.kind c.args.port c.args.self.now.ports.items c.find.result (sym c.find.ensures) (sym c.is_some.ensures ∙ c.if-is_some.true) n,
  λ _. refl,
)

pub returns-in-Ok-clause-ports : goal.returns-in-Ok-clause-ports
returns-in-Ok-clause-ports g c =
    states-after (extent_bytes g.S.Shape.shape) c.args.self.now.ports.items c.append.new.self.ports.items c.new.result _ c.in-Ok.ensures.ok c.new.ensures.state

pub returns-in-Ok-clause-stands : goal.returns-in-Ok-clause-stands
returns-in-Ok-clause-stands g c st =
    let ports = c.args.self.now.ports.items in
    let ps = states (extent_bytes g.S.Shape.shape) ports in
    let p : Port = record { kind = c.args.kind; port = c.args.port; sources = c.args.sources; extent = extent_bytes g.S.Shape.shape c.args.shape } in
    let n = length-states (extent_bytes g.S.Shape.shape) ports in
    subst (λ (qs : List PortState). StandsFor c.args.self.now.timeout [] qs)
    (sym (states-after (extent_bytes g.S.Shape.shape) ports c.append.new.self.ports.items c.new.result _ c.in-Ok.ensures.ok c.new.ensures.state))
    (stands-subscribed c.args.self.now.timeout ps p (let room = c.requires.room in omega arith) (record { few = c.requires.few; small = c.requires.small })
    (not_taken (extent_bytes g.S.Shape.shape) c.args.kind c.args.port ports c.find.result (sym c.find.ensures) (sym c.is_some.ensures ∙ c.if-is_some.false)) st)

pub returns-in-Ok-clause-taken : goal.returns-in-Ok-clause-taken
returns-in-Ok-clause-taken g c = (
  λ e. absurd cc,
  λ n. absurd (n (not_taken (extent_bytes g.S.Shape.shape) c.args.kind c.args.port c.args.self.now.ports.items c.find.result (sym c.find.ensures) (sym c.is_some.ensures ∙ c.if-is_some.false))),
)

pub returns-in-Err-clause-taken : goal.returns-in-Err-clause-taken
returns-in-Err-clause-taken g c = (
  λ e. absurd cc,
  λ n. absurd (n (not_taken (extent_bytes g.S.Shape.shape) c.args.kind c.args.port c.args.self.now.ports.items c.find.result (sym c.find.ensures) (sym c.is_some.ensures ∙ c.if-is_some.false))),
)

pub returns-in-Ok-clause-heard : goal.returns-in-Ok-clause-heard
returns-in-Ok-clause-heard g c now x =
    let ports = c.args.self.now.ports.items in
    let ps = states (extent_bytes g.S.Shape.shape) ports in
    let p : Port = record { kind = c.args.kind; port = c.args.port; sources = c.args.sources; extent = extent_bytes g.S.Shape.shape c.args.shape } in
    subst (λ (qs : List PortState). HeardBy now qs)
    (sym (states-after (extent_bytes g.S.Shape.shape) ports c.append.new.self.ports.items c.new.result _ c.in-Ok.ensures.ok c.new.ensures.state))
    (heard-subscribed now ps p x)

pub append-requires-clause-absent : goal.append-requires-clause-absent
append-requires-clause-absent g c =
    ap₂ (λ (k : Kind) (n : ℕ). place_of k n c.args.self.now.ports.items) c.new.ensures.kind c.new.ensures.port
    ∙ (sym (position-place c.args.kind c.args.port c.args.self.now.ports.items) ∙ (sym c.find.ensures ∙ none_is c.find.result (sym c.is_some.ensures ∙ c.if-is_some.false)))
