use Rattle.std.proofs.Common.{◌≡◌, ◌∙◌, sym, ap, refl, subst, length, List, None, Some}
use Rattle.std.proofs.lemmas.Option.{slice_get_read}
use Rattle.can_id.specs.Identifiers.{key_of}
use Rattle.can_id.specs.declared.key.Key.{Key}
use Rattle.tail_frame.specs.Frames.{seen}
use Rattle.rx_session.specs.Extents.{extent_bytes}
use Rattle.rx_session.specs.Session.{Outcome}
use Rattle.rx_session.specs.Seen.{record_of}
use Rattle.rx_table.specs.Ports.{PortState, Answer, Anonymous, ports_of, is_of_session}
use Rattle.rx_table.specs.Table.{StandsFor, HeardBy, port_of, states, logged, Told}
use Rattle.rx_table.specs.Views.{place_in}
use Rattle.rx_table.proofs.Answered.{on_err_then, on_ok_then, if_ok_then, if_ok_both, in_both}
use Rattle.rx_table.proofs.Idle.{idle-nth}
use Rattle.rx_table.proofs.Heard.{heard-later, feed_nth-heard}
use Rattle.rx_table.proofs.FoundPorts.{not_found, found, found_within, found_port}
use Rattle.rx_table.proofs.Told.{told-none, stands-none, stands-anonymous, told-anonymous, stands-found, told-found, opens_found}
use Rattle.rx_table.proofs.table.Table.step.Goals as goal

pub returns-in_default-clause-heard : goal.returns-in_default-clause-heard
returns-in_default-clause-heard g c now le =
    heard-later c.args.frame.now.moment now (states (extent_bytes g.S.Shape.shape) c.args.self.now.ports.items) le c.requires

pub returns-in_default-clause-stands : goal.returns-in_default-clause-stands
returns-in_default-clause-stands g c log st =
    let ps = states (extent_bytes g.S.Shape.shape) c.args.self.now.ports.items in
    stands-none c.args.self.now.timeout (seen c.args.frame.now) c.key-key.result c.key-key.ensures ps log
    (not_found (extent_bytes g.S.Shape.shape) c.key-key.result.kind c.key-key.result.port c.args.self.now.ports.items (sym c.find.ensures ∙ c.in_default.is)) st

pub returns-in_default-clause-told : goal.returns-in_default-clause-told
returns-in_default-clause-told g c log st =
    let ps = states (extent_bytes g.S.Shape.shape) c.args.self.now.ports.items in
    told-none c.args.self.now.timeout (seen c.args.frame.now) c.key-key.result c.key-key.ensures ps log
    (not_found (extent_bytes g.S.Shape.shape) c.key-key.result.kind c.key-key.result.port c.args.self.now.ports.items (sym c.find.ensures ∙ c.in_default.is))

pub returns-in-None-clause-heard : goal.returns-in-None-clause-heard
returns-in-None-clause-heard g c now le =
    heard-later c.args.frame.now.moment now (states (extent_bytes g.S.Shape.shape) c.args.self.now.ports.items) le c.requires

pub returns-in-None-clause-stands : goal.returns-in-None-clause-stands
returns-in-None-clause-stands g c log st =
    let ps = states (extent_bytes g.S.Shape.shape) c.args.self.now.ports.items in
    stands-anonymous c.args.self.now.timeout (seen c.args.frame.now) c.key-key.result c.key-key.ensures ps log c.in-None.is st

pub returns-in-None-clause-told : goal.returns-in-None-clause-told
returns-in-None-clause-told g c log st =
    let ports = c.args.self.now.ports.items in
    let ps = states (extent_bytes g.S.Shape.shape) ports in
    let key = c.key-key.result in
    let at = found (extent_bytes g.S.Shape.shape) key.kind key.port ports c.in-Some.place (sym c.find.ensures ∙ c.in-Some.is) in
    let there = slice_get_read ports (length ports) c.in-Some.place c.index.result.now refl (found_within (extent_bytes g.S.Shape.shape) key.kind key.port ports c.in-Some.place at) c.index.ensures in
    subst (λ (o : Outcome). Told c.args.self.now.timeout (ports_of ps) (seen c.args.frame.now) log (Anonymous o)) (sym c.alone.ensures)
    (told-anonymous c.args.self.now.timeout (seen c.args.frame.now) key c.key-key.ensures ps log (port_of (extent_bytes g.S.Shape.shape) c.index.result.now) c.in-None.is
    (found_port (extent_bytes g.S.Shape.shape) key.kind key.port ports c.in-Some.place c.index.result.now at there))

pub returns-in-Some-source-clause-heard : goal.returns-in-Some-source-clause-heard
returns-in-Some-source-clause-heard g c now le =
    let ps = states (extent_bytes g.S.Shape.shape) c.args.self.now.ports.items in
    let r = record_of c.args.frame.now in
    heard-later c.args.frame.now.moment now (states (extent_bytes g.S.Shape.shape) c.step_at.new.self.ports.items) le
    (in_both c.step_at.result c.step_at.ensures.states c.step_at.ensures.err
    (λ e. subst (λ (qs : List PortState). HeardBy c.args.frame.now.moment qs) (sym e) (feed_nth-heard c.args.self.now.timeout r ps c.in-Some.place c.in-Some-source.source c.requires))
    (λ e. subst (λ (qs : List PortState). HeardBy c.args.frame.now.moment qs) (sym e) c.requires))

pub returns-in-Some-source-clause-stands : goal.returns-in-Some-source-clause-stands
returns-in-Some-source-clause-stands g c =
    let ports = c.args.self.now.ports.items in
    let ps = states (extent_bytes g.S.Shape.shape) ports in
    let key = c.key-key.result in
    let at = found (extent_bytes g.S.Shape.shape) key.kind key.port ports c.in-Some.place (sym c.find.ensures ∙ c.in-Some.is) in
    on_ok_then c.step_at.result c.step_at.ensures.states
    (λ e log st. subst (λ (qs : List PortState). StandsFor c.args.self.now.timeout (logged (seen c.args.frame.now) log) qs) (sym e)
    (stands-found c.args.self.now.timeout (seen c.args.frame.now) key c.key-key.ensures ps log c.in-Some.place c.in-Some-source.source c.in-Some-source.is at st))

pub returns-in-Some-source-clause-told : goal.returns-in-Some-source-clause-told
returns-in-Some-source-clause-told g c =
    let ports = c.args.self.now.ports.items in
    let ps = states (extent_bytes g.S.Shape.shape) ports in
    let key = c.key-key.result in
    let at = found (extent_bytes g.S.Shape.shape) key.kind key.port ports c.in-Some.place (sym c.find.ensures ∙ c.in-Some.is) in
    if_ok_then c.step_at.result c.step_at.ensures.answer
    (λ met e log st. subst (λ (answer : Answer). Told c.args.self.now.timeout (ports_of ps) (seen c.args.frame.now) log answer) (sym e)
    (told-found c.args.self.now.timeout (seen c.args.frame.now) key c.key-key.ensures ps log c.in-Some.place c.in-Some-source.source c.in-Some-source.is at st))

pub returns-in-Some-source-clause-idle : goal.returns-in-Some-source-clause-idle
returns-in-Some-source-clause-idle g c =
    let ps = states (extent_bytes g.S.Shape.shape) c.args.self.now.ports.items in
    if_ok_both c.step_at.result c.step_at.ensures.states c.step_at.ensures.answer
    (λ met e told h. e ∙ idle-nth c.args.self.now.timeout c.in-Some-source.source (record_of c.args.frame.now) ps c.in-Some.place (sym (ap is_of_session told) ∙ h))

pub returns-in-Some-source-clause-memory : goal.returns-in-Some-source-clause-memory
returns-in-Some-source-clause-memory g c =
    let ports = c.args.self.now.ports.items in
    let ps = states (extent_bytes g.S.Shape.shape) ports in
    let key = c.key-key.result in
    let at = found (extent_bytes g.S.Shape.shape) key.kind key.port ports c.in-Some.place (sym c.find.ensures ∙ c.in-Some.is) in
    on_err_then c.step_at.result c.step_at.ensures.memory
    (λ a log st. opens_found c.args.self.now.timeout (seen c.args.frame.now) key c.key-key.ensures ps log c.in-Some.place c.in-Some-source.source c.in-Some-source.is at st a)

pub returns-in_default-clause-place : goal.returns-in_default-clause-place
returns-in_default-clause-place g c =
    subst (λ (key : Key). place_in key.kind key.port c.args.self.now ≡ None) c.key-key.ensures (sym c.find.ensures ∙ c.in_default.is)

pub returns-in-None-clause-place : goal.returns-in-None-clause-place
returns-in-None-clause-place g c = sym (ap (λ (key : Key). key.source) c.key-key.ensures) ∙ c.in-None.is

pub returns-in-Some-source-clause-place : goal.returns-in-Some-source-clause-place
returns-in-Some-source-clause-place g c =
    c.step_at.ensures.place (key_of c.args.frame.now.ident)
    (subst (λ (key : Key). place_in key.kind key.port c.args.self.now ≡ Some c.in-Some.place) c.key-key.ensures (sym c.find.ensures ∙ c.in-Some.is))
    (sym (ap (λ (key : Key). key.source) c.key-key.ensures) ∙ c.in-Some-source.is)
