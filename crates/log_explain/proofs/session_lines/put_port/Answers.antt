use Rattle.std.proofs.Common.{◌≡◌, ◌∙◌, ◌++◌, ◌+◌, Some, drop, sym, ap, slice_get}
use Rattle.std.specs.Option.{option_map}
use Rattle.line_text.specs.Buffer.{text_of}
use Rattle.rx_table.specs.Admitted.{key_of}
use Rattle.log_explain.specs.Places.{slot_at}
use Rattle.log_explain.specs.SessionLines.{sessions_at, tally_at}
use Rattle.log_explain.specs.Sessions.{Session}
use Rattle.log_explain.specs.Text.{session_text, sessions_text}
use Rattle.log_explain.specs.declared.tally.Tally.{Tally}
use Rattle.log_explain.proofs.Loops.{drop_next, put_more}
use Rattle.log_explain.proofs.session_lines.put_port.Goals as goal

pub loop-index-preserved : goal.loop-index-preserved
loop-index-preserved g c low =
    let es = c.args.port.now.sessions.entries in
    let by = c.args.tallies.now.by_slot.items in
    let names = c.args.names.now in
    let port = c.args.port.now in
    let index = c.loop-index.index in
    let source = c.unwrap.result.0.now in
    let session = c.unwrap.result.1.now in
    let got : slice_get es index ≡ Some (source, session) = sym c.get_index.ensures.entry ∙ ap (option_map (λ p. (p.0.now, p.1.now))) c.unwrap.ensures in
    let tally : c.at.result ≡ tally_at by (slot_at c.args.place source) = c.at.ensures ∙ ap (tally_at by) (c.slot_of.ensures low) in
    let line = λ (t : Tally). (let s : Session = record { key = key_of port.kind port.port source; bus = session.force.bus; tally = t } in session_text names s) in
    let rest = sessions_text names (sessions_at by port.kind port.port c.args.place (drop (index + 1) es)) in
    put_more (text_of c.loop-index.text) (text_of c.put_session.new.text) (text_of c.args.text.now) (sessions_text names (sessions_at by port.kind port.port c.args.place es)) (line (tally_at by (slot_at c.args.place source))) rest
    (sessions_text names (sessions_at by port.kind port.port c.args.place (drop index es)))
    (c.loop-index.invariant low)
    ((c.in_ok-put_session.ensures {u = tt}) ∙ ap (λ (t : Tally). text_of c.loop-index.text ++ line t) tally)
    (ap (λ xs. sessions_text names (sessions_at by port.kind port.port c.args.place xs)) (drop_next es index (source, session) got))
