use Rattle.std.proofs.Common.{◌≡◌, ◌∙◌, ℕ, IfSome, Option, Some, None, refl, sym, subst, length, slice_get}
use Rattle.std.proofs.lemmas.Option.{slice_get_read}
use Rattle.can_id.specs.declared.key.Key.{Key}
use Rattle.can_id.specs.declared.key.Kind.{Kind}
use Rattle.tail_frame.specs.Frames.{FrameOf, key_record, seen}
use Rattle.rx_session.specs.Extents.{extent_bytes}
use Rattle.rx_table.specs.Ports.{Port, ports_of}
use Rattle.rx_table.specs.Table.{port_of, states}
use Rattle.rx_table.specs.Views.{place_in}
use Rattle.rx_table.proofs.FoundPorts.{found, found_port, found_within}
use Rattle.log_explain.specs.Asked.{IsLastOn, frame_on}
use Rattle.log_explain.specs.Reasons.{of_source}
use Rattle.log_explain.proofs.Tables.{at_nth, key_at, last_on, sourced}
use Rattle.log_explain.proofs.reasons.table.reason_at.Goals as goal

if_some : {X : Type 0} (P Q : X → Type 0) (o : Option X) → ((x : X) → P x → Q x) → IfSome o P → IfSome o Q
if_some P Q None f h = tt
if_some P Q (Some x) f h = f x h

pub returns : goal.returns
returns g c own none =
    let extent = extent_bytes g.S.Shape.shape in
    let items = c.args.table.now.ports.items in
    let timeout = c.args.table.now.timeout in
    let key : Key = c.key.result in
    let f : FrameOf = seen c.args.frame.now in
    let place = c.args.place in
    let source = c.in_ok-source.source in
    let port = c.index-port.result.now in
    let p : Port = port_of extent port in
    let at = found extent key.kind key.port items place (subst (λ (k : Key). place_in k.kind k.port c.args.table.now ≡ Some place) (sym c.key.ensures) c.requires) in
    let there : slice_get items place ≡ Some port = slice_get_read items (length items) place port refl (found_within extent key.kind key.port items place at) c.index-port.ensures in
    let on = found_port extent key.kind key.port items place port at there in
    let same = key_at extent key.kind key.port items place port at there in
    if_some _ _ c.reason_by.result (λ reason tells log st l.
    let stands = at_nth extent timeout log items place port there st.sessions st.table.each in
    let last : IsLastOn timeout p (frame_on key.kind key.port source (key_record f)) log c.args.last =
    last_on own timeout f key c.key.ensures (ports_of (states extent items)) log none c.args.last p source on c.in_ok-source.was l in
    let mine : IsLastOn timeout p (frame_on p.kind p.port source (key_record f)) log c.args.last =
    subst (λ (k : Kind). IsLastOn timeout p (frame_on k p.port source (key_record f)) log c.args.last) same.0
    (subst (λ (n : ℕ). IsLastOn timeout p (frame_on key.kind n source (key_record f)) log c.args.last) same.1 last) in
    tells log stands.small stands.stands mine
    ∙ ((λ i. of_source timeout p (frame_on (sym same.0 i) (sym same.1 i) source (key_record f)) log)
    ∙ sourced own timeout f key c.key.ensures (ports_of (states extent items)) log none p source on c.in_ok-source.was)) c.reason_by.ensures
