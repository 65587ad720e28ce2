use Rattle.std.proofs.Common.{◌≡◌, ◌∙◌, sym, ap, subst, List, Some}
use Rattle.can_id.specs.Identifiers.{key_of}
use Rattle.can_id.specs.declared.key.Key.{Key}
use Rattle.tail_frame.specs.Frames.{seen}
use Rattle.rx_session.specs.Extents.{extent_bytes}
use Rattle.rx_session.specs.Seen.{record_of}
use Rattle.rx_table.specs.Ports.{PortState, Answer, ports_of}
use Rattle.rx_table.specs.Table.{StandsFor, HeardBy, states, logged, Told}
use Rattle.rx_table.specs.Views.{place_in}
use Rattle.rx_table.proofs.Answered.{if_some_then, in_either}
use Rattle.rx_table.proofs.Heard.{heard-later, feed_nth-heard}
use Rattle.rx_table.proofs.FoundPorts.{found, place_stays}
use Rattle.rx_table.proofs.Told.{stands-found, told-found}
use Rattle.rx_table.proofs.table.Table.quick.Goals as goal

pub returns-in-None-clause-place : goal.returns-in-None-clause-place
returns-in-None-clause-place g c = c.requires.place

pub returns-in-Some-clause-place : goal.returns-in-Some-clause-place
returns-in-Some-clause-place g c =
    let key = key_of c.args.frame.now.ident in
    place_stays (extent_bytes g.S.Shape.shape) key.kind key.port c.args.self.now.ports.items c.quick_at.new.self.ports.items c.quick_at.ensures.keeps.ports ∙ c.requires.place

pub returns-in-None-clause-heard : goal.returns-in-None-clause-heard
returns-in-None-clause-heard g c now le =
    heard-later c.args.frame.now.moment now (states (extent_bytes g.S.Shape.shape) c.args.self.now.ports.items) le c.requires.heard

pub returns-in-Some-clause-heard : goal.returns-in-Some-clause-heard
returns-in-Some-clause-heard g c now le =
    let ps = states (extent_bytes g.S.Shape.shape) c.args.self.now.ports.items in
    let r = record_of c.args.frame.now in
    heard-later c.args.frame.now.moment now (states (extent_bytes g.S.Shape.shape) c.quick_at.new.self.ports.items) le
    (in_either c.quick_at.result c.quick_at.ensures.states c.quick_at.ensures.none
    (λ _ e. subst (λ (qs : List PortState). HeardBy c.args.frame.now.moment qs) (sym e) (feed_nth-heard c.args.self.now.timeout r ps c.args.place c.in-Some.source c.requires.heard))
    (λ e. subst (λ (qs : List PortState). HeardBy c.args.frame.now.moment qs) (sym e) c.requires.heard))

pub returns-in-Some-clause-stands : goal.returns-in-Some-clause-stands
returns-in-Some-clause-stands g c =
    let ports = c.args.self.now.ports.items in
    let ps = states (extent_bytes g.S.Shape.shape) ports in
    let key = c.key-key.result in
    let there = subst (λ (k : Key). place_in k.kind k.port c.args.self.now ≡ Some c.args.place) (sym c.key-key.ensures) c.requires.place in
    let at = found (extent_bytes g.S.Shape.shape) key.kind key.port ports c.args.place there in
    if_some_then c.quick_at.result c.quick_at.ensures.states
    (λ _ e log st. subst (λ (qs : List PortState). StandsFor c.args.self.now.timeout (logged (seen c.args.frame.now) log) qs) (sym e)
    (stands-found c.args.self.now.timeout (seen c.args.frame.now) key c.key-key.ensures ps log c.args.place c.in-Some.source c.in-Some.is at st))

pub returns-in-Some-clause-told : goal.returns-in-Some-clause-told
returns-in-Some-clause-told g c =
    let ports = c.args.self.now.ports.items in
    let ps = states (extent_bytes g.S.Shape.shape) ports in
    let key = c.key-key.result in
    let there = subst (λ (k : Key). place_in k.kind k.port c.args.self.now ≡ Some c.args.place) (sym c.key-key.ensures) c.requires.place in
    let at = found (extent_bytes g.S.Shape.shape) key.kind key.port ports c.args.place there in
    if_some_then c.quick_at.result c.quick_at.ensures.answer
    (λ _ e log st. subst (λ (answer : Answer). Told c.args.self.now.timeout (ports_of ps) (seen c.args.frame.now) log answer) (sym e)
    (told-found c.args.self.now.timeout (seen c.args.frame.now) key c.key-key.ensures ps log c.args.place c.in-Some.source c.in-Some.is at st))

pub returns-in-Some-clause-index : goal.returns-in-Some-clause-index
returns-in-Some-clause-index g c =
    if_some_then c.quick_at.result c.quick_at.ensures.index (λ _ e. e ∙ (sym c.in-Some.is ∙ ap (λ (key : Key). key.source) c.key-key.ensures))

pub returns-in-Some-clause-known : goal.returns-in-Some-clause-known
returns-in-Some-clause-known g c =
    if_some_then c.quick_at.result c.quick_at.ensures.known (λ _ e. e ∙ (sym c.in-Some.is ∙ ap (λ (key : Key). key.source) c.key-key.ensures))
