use Rattle.std.proofs.Common.{◌≡◌, ◌∙◌, ℕ, Some, refl, sym, subst, length, slice_get}
use Rattle.std.proofs.lemmas.Option.{slice_get_read}
use Rattle.can_id.specs.declared.key.Kind.{Kind}
use Rattle.tail_frame.specs.Frames.{FrameOf, key_record, seen}
use Rattle.rx_session.specs.Extents.{extent_bytes}
use Rattle.rx_table.specs.Ports.{Port, port_at, ports_of}
use Rattle.rx_table.specs.Table.{port_of, states}
use Rattle.rx_table.proofs.FoundPorts.{found, found_port, found_within, is_there, not_found}
use Rattle.log_explain.specs.Asked.{IsLastOn, frame_on}
use Rattle.log_explain.specs.Reasons.{of_source}
use Rattle.log_explain.proofs.Tables.{alone_on, at_nth, key_at, last_on, nowhere, sourced}
use Rattle.log_explain.proofs.reasons.table.reason_of_frame.Goals as goal

pub returns-in_default-place_of : goal.returns-in_default-place_of
returns-in_default-place_of g c log st l =
    let extent = extent_bytes g.S.Shape.shape in
    let items = c.args.table.now.ports.items in
    let key = c.key-key.result in
    nowhere c.args.own c.args.table.now.timeout (seen c.args.frame.now) key c.key-key.ensures (ports_of (states extent items)) log (sym c.aside.ensures ∙ c.in_default.is)
    (not_found extent key.kind key.port items (sym c.place_of.ensures ∙ c.in_default-place_of.is))

pub returns-in-None : goal.returns-in-None
returns-in-None g c log st l =
    let extent = extent_bytes g.S.Shape.shape in
    let items = c.args.table.now.ports.items in
    let key = c.key-key.result in
    let ports = ports_of (states extent items) in
    alone_on c.args.own c.args.table.now.timeout (seen c.args.frame.now) key c.key-key.ensures ports log (sym c.aside.ensures ∙ c.in_default.is) (port_at key.kind key.port ports) refl
    (sym (is_there extent key.kind key.port items (Some c.in-Some-place_of.place) (sym c.place_of.ensures ∙ c.in-Some-place_of.is))) c.in-None.is

pub returns-in-Some-source : goal.returns-in-Some-source
returns-in-Some-source g c log st l =
    let extent = extent_bytes g.S.Shape.shape in
    let items = c.args.table.now.ports.items in
    let timeout = c.args.table.now.timeout in
    let key = c.key-key.result in
    let f : FrameOf = seen c.args.frame.now in
    let place = c.in-Some-place_of.place in
    let source = c.in-Some-source.source in
    let port = c.index.result.now in
    let p : Port = port_of extent port in
    let at = found extent key.kind key.port items place (sym c.place_of.ensures ∙ c.in-Some-place_of.is) in
    let there : slice_get items place ≡ Some port = slice_get_read items (length items) place port refl (found_within extent key.kind key.port items place at) c.index.ensures in
    let on = found_port extent key.kind key.port items place port at there in
    let none = sym c.aside.ensures ∙ c.in_default.is in
    let same = key_at extent key.kind key.port items place port at there in
    let stands = at_nth extent timeout log items place port there st.sessions st.table.each in
    let last : IsLastOn timeout p (frame_on key.kind key.port source (key_record f)) log c.args.last =
    last_on c.args.own timeout f key c.key-key.ensures (ports_of (states extent items)) log none c.args.last p source on c.in-Some-source.is l in
    let mine : IsLastOn timeout p (frame_on p.kind p.port source (key_record f)) log c.args.last =
    subst (λ (k : Kind). IsLastOn timeout p (frame_on k p.port source (key_record f)) log c.args.last) same.0
    (subst (λ (n : ℕ). IsLastOn timeout p (frame_on key.kind n source (key_record f)) log c.args.last) same.1 last) in
    c.reason_on.ensures log stands.small stands.stands mine
    ∙ ((λ i. of_source timeout p (frame_on (sym same.0 i) (sym same.1 i) source (key_record f)) log)
    ∙ sourced c.args.own timeout f key c.key-key.ensures (ports_of (states extent items)) log none p source on c.in-Some-source.is)
