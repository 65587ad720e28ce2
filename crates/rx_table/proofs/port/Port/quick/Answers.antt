use Rattle.std.proofs.Common.{◌∙◌, sym, ap, List, ℕ, slice_get}
use Rattle.std.proofs.lemmas.Bool.{cond-true}
use Rattle.transfer_crc.specs.Crc.{crc_more}
use Rattle.rx_session.specs.Extents.{extent_bytes}
use Rattle.rx_session.specs.Seen.{record_of}
use Rattle.rx_table.specs.Admitted.{has}
use Rattle.rx_table.specs.Ports.{Entry, OfSession, sources_of, advance_at, outcome_at}
use Rattle.rx_table.specs.Places.{opened, opened_answer}
use Rattle.rx_table.specs.Table.{port_of, entries_of}
use Rattle.rx_table.proofs.KnownSources.{known-has, known-entries, known-outcome, known-at, sources-step}
use Rattle.rx_table.proofs.port.Port.quick.Goals as goal

pub returns-clause-entries : goal.returns-clause-entries
returns-clause-entries g c =
    let es = entries_of c.args.self.now.sessions.entries in
    let r = record_of c.args.frame.now in
    let at = sym c.in_ok-index.ensures.index in
    let unique = c.hinted.ensures.unique in
    c.step_at-step.ensures.entries ∙ (known-entries c.args.timeout c.args.source r c.in_ok-index.index es unique at
    ∙ sym (cond-true (has c.args.source (sources_of es)) (advance_at crc_more 0xFFFF c.args.timeout c.args.source r es) (opened c.args.timeout (port_of (extent_bytes g.S.Shape.shape) c.args.self.now) es c.args.source r)
    (known-has c.args.source c.in_ok-index.index es at)))

pub returns-clause-answer : goal.returns-clause-answer
returns-clause-answer g c =
    let es = entries_of c.args.self.now.sessions.entries in
    let r = record_of c.args.frame.now in
    let at = sym c.in_ok-index.ensures.index in
    ap OfSession (c.step_at-step.ensures.outcome ∙ known-outcome c.args.timeout c.args.source r c.in_ok-index.index es at)
    ∙ sym (cond-true (has c.args.source (sources_of es)) (OfSession (outcome_at crc_more 0xFFFF c.args.timeout c.args.source r es)) (opened_answer c.args.timeout (port_of (extent_bytes g.S.Shape.shape) c.args.self.now) es r)
    (known-has c.args.source c.in_ok-index.index es at))

pub returns-clause-known : goal.returns-clause-known
returns-clause-known g c = known-at c.args.source c.in_ok-index.index (sources_of (entries_of c.args.self.now.sessions.entries)) (sym c.in_ok-index.ensures.index)

pub returns-clause-place : goal.returns-clause-place
returns-clause-place g c =
    let es = entries_of c.args.self.now.sessions.entries in
    let at = sym c.in_ok-index.ensures.index in
    ap (λ (fs : List Entry). slice_get (sources_of fs) c.in_ok-index.index) c.step_at-step.ensures.entries
    ∙ (ap (λ (ss : List ℕ). slice_get ss c.in_ok-index.index) (sources-step c.args.timeout (record_of c.args.frame.now) es c.in_ok-index.index)
    ∙ known-at c.args.source c.in_ok-index.index (sources_of es) at)
