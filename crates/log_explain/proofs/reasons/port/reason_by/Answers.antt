use Rattle.std.proofs.Common.{◌≡◌, ◌∙◌, ℕ, ◌+◌, ◌<◌, ◌^◌, true, Some, sym, ap, subst, slice_get, arith}
use Rattle.std.specs.Option.{option_map}
use Rattle.transfer_crc.specs.Crc.{crc_of}
use Rattle.rx_session.specs.Extents.{extent_bytes}
use Rattle.rx_session.specs.Seen.{kept, record_of}
use Rattle.rx_table.specs.Admitted.{has, key_of}
use Rattle.rx_table.specs.Keys.{history}
use Rattle.rx_table.specs.Ports.{Port, sources_of}
use Rattle.rx_table.specs.Stands.{Stands}
use Rattle.rx_table.specs.Table.{entries_of, port_of}
use Rattle.log_explain.proofs.Ports.{has_nth, known_reason, stands_nth}
use Rattle.log_explain.proofs.reasons.port.reason_by.Goals as goal

pub returns-then-key-source : goal.returns-then-key-source
returns-then-key-source g c log small st l =
    let es = c.args.port.now.sessions.entries in
    let p : Port = port_of (extent_bytes g.S.Shape.shape) c.args.port.now in
    let source = c.args.source in
    let key = c.in_ok-key.key.now in
    let session = c.in_ok-key.session.now in
    let timeout = c.args.timeout in
    let got : slice_get es c.args.index ≡ Some (key, session) = sym c.get_index.ensures.entry ∙ ap (option_map (λ p. (p.0.now, p.1.now))) c.in_ok-key.was in
    let same : key ≡ source = c.if-key-source.true in
    let stands : Stands crc_of timeout (history (key_of p.kind p.port source) log) (kept session) =
    subst (λ (s : ℕ). Stands crc_of timeout (history (key_of p.kind p.port s) log) (kept session)) same (stands_nth timeout p log es c.args.index (key, session) st.sessions got) in
    let there : has source (sources_of (entries_of es)) ≡ true =
    subst (λ (s : ℕ). has s (sources_of (entries_of es)) ≡ true) same (has_nth es c.args.index (key, session) got) in
    let few : p.extent + 2 < 2 ^ 64 = omega (arith, small) in
    c.reason_in.ensures
    ∙ known_reason timeout p few source (record_of c.args.frame.now) log (entries_of es) st c.args.last (kept session) there stands l
