use Rattle.std.proofs.Common.{◌≡◌, ◌∙◌, ℕ, ◌+◌, ◌<◌, ◌^◌, List, Some, None, sym, ap, subst, position, nat_eq, slice_get, arith}
use Rattle.std.specs.Option.{option_map}
use Rattle.transfer_crc.specs.Crc.{crc_of}
use Rattle.rx_session.specs.Extents.{extent_bytes}
use Rattle.rx_session.specs.Seen.{kept, record_of}
use Rattle.rx_table.specs.Admitted.{key_of}
use Rattle.rx_table.specs.Keys.{history}
use Rattle.rx_table.specs.Ports.{Port, sources_of}
use Rattle.rx_table.specs.Stands.{Stands}
use Rattle.rx_table.specs.Table.{entries_of, port_of}
use Rattle.rx_table.proofs.KnownSources.{known-has, sources-keys, unknown-has}
use Rattle.rx_table.proofs.NewSources.{length-entries}
use Rattle.log_explain.specs.Told.{told_new}
use Rattle.log_explain.proofs.Ports.{key_nth, known_reason, new_reason, stands_nth}
use Rattle.log_explain.proofs.reasons.port.reason_on.Goals as goal

pub returns-in-Some : goal.returns-in-Some
returns-in-Some g c log small st l =
    let es = c.args.port.now.sessions.entries in
    let p : Port = port_of (extent_bytes g.S.Shape.shape) c.args.port.now in
    let source = c.args.source in
    let key = c.unwrap.result.0.now in
    let session = c.unwrap.result.1.now in
    let at : position (nat_eq source) (sources_of (entries_of es)) ≡ Some c.in-Some.index =
    sym (c.in-Some.ensures.index ∙ ap (λ (ks : List ℕ). position (nat_eq source) ks) (sources-keys es)) in
    let got : slice_get es c.in-Some.index ≡ Some (key, session) = sym c.get_index.ensures.entry ∙ ap (option_map (λ p. (p.0.now, p.1.now))) c.unwrap.ensures in
    let same : source ≡ key = key_nth source es c.in-Some.index (key, session) at got in
    let stands : Stands crc_of c.args.timeout (history (key_of p.kind p.port source) log) (kept session) =
    subst (λ (s : ℕ). Stands crc_of c.args.timeout (history (key_of p.kind p.port s) log) (kept session)) (sym same) (stands_nth c.args.timeout p log es c.in-Some.index (key, session) st.sessions got) in
    let few : p.extent + 2 < 2 ^ 64 = omega (arith, small) in
    c.reason_in.ensures
    ∙ known_reason c.args.timeout p few source (record_of c.args.frame.now) log (entries_of es) st c.args.last (kept session) (known-has source c.in-Some.index (entries_of es) at) stands l

pub returns-in-None : goal.returns-in-None
returns-in-None g c log small st l =
    let es = c.args.port.now.sessions.entries in
    let p : Port = port_of (extent_bytes g.S.Shape.shape) c.args.port.now in
    let source = c.args.source in
    let r = record_of c.args.frame.now in
    let none : position (nat_eq source) (sources_of (entries_of es)) ≡ None =
    sym (c.in-None.ensures.index ∙ ap (λ (ks : List ℕ). position (nat_eq source) ks) (sources-keys es)) in
    let few : p.extent + 2 < 2 ^ 64 = omega (arith, small) in
    c.first_of.ensures
    ∙ (ap (λ (n : ℕ). told_new n p.sources r) (c.len.ensures.len ∙ sym (length-entries es))
    ∙ new_reason c.args.timeout p few source r log (entries_of es) st (unknown-has source (entries_of es) none))
