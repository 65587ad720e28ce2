use Rattle.std.proofs.Common.{◌≡◌, ◌∙◌, ◌+◌, ◌<◌, ◌≤◌, ◌^◌, Some, drop, length, refl, ap, slice_get, arith}
use Rattle.std.proofs.lemmas.Option.{slice_get_read}
use Rattle.line_text.specs.Buffer.{text_of}
use Rattle.log_explain.specs.SessionLines.{sessions_at, sessions_from}
use Rattle.log_explain.specs.Text.{sessions_text}
use Rattle.log_explain.proofs.Loops.{drop_next, put_more, sessions_append}
use Rattle.log_explain.proofs.session_lines.put_sessions.Goals as goal

pub loop-place-preserved : goal.loop-place-preserved
loop-place-preserved g c few =
    let items = c.args.table.now.ports.items in
    let by = c.args.tallies.now.by_slot.items in
    let names = c.args.names.now in
    let place = c.loop-place.place in
    let port = c.index.result.now in
    let within : place < length items = omega arith in
    let low : place ≤ 2 ^ 16 = omega (arith, within, few) in
    let got : slice_get items place ≡ Some port = slice_get_read items (length items) place port refl within c.index.ensures in
    let mine = sessions_at by port.kind port.port place port.sessions.entries in
    let others = sessions_from by (place + 1) (drop (place + 1) items) in
    put_more (text_of c.loop-place.text) (text_of c.put_port.new.text) (text_of c.args.text.now) (sessions_text names (sessions_from by 0 items)) (sessions_text names mine) (sessions_text names others)
    (sessions_text names (sessions_from by place (drop place items)))
    (c.loop-place.invariant few)
    (c.in_ok-put_port.ensures {u = tt} low)
    (ap (λ xs. sessions_text names (sessions_from by place xs)) (drop_next items place port got) ∙ sessions_append names mine others)
