use Rattle.std.proofs.Common.{◌≡◌, ◌∙◌, sym, ap, subst, OnOk, IfOk, List, ℕ, slice_get, arith}
use Rattle.std.proofs.lemmas.Bool.{cond-true, cond-false}
use Rattle.transfer_crc.specs.Crc.{crc_more}
use Rattle.rx_session.specs.Extents.{extent_bytes}
use Rattle.rx_session.specs.Seen.{record_of}
use Rattle.rx_table.specs.Admitted.{has}
use Rattle.rx_table.specs.Ports.{Entry, Answer, OfSession, sources_of, advance_at, outcome_at}
use Rattle.rx_table.specs.Places.{opened, opened_answer, met_answer}
use Rattle.rx_table.specs.Table.{port_of, entries_of}
use Rattle.rx_table.proofs.Answered.{on_err_both}
use Rattle.rx_table.proofs.NewSources.{length-entries}
use Rattle.rx_table.proofs.KnownSources.{known-has, unknown-has, known-entries, known-outcome, known-at, sources-step}
use Rattle.rx_table.proofs.port.Port.meet.Goals as goal

pub returns-in-Some-clause-entries : goal.returns-in-Some-clause-entries
returns-in-Some-clause-entries g c =
    let es = entries_of c.args.self.now.sessions.entries in
    let r = record_of c.args.frame.now in
    let at = sym c.in-Some.ensures.index in
    let unique = c.in-Some.ensures.unique in
    c.step_at-step.ensures.entries ∙ (known-entries c.args.timeout c.args.source r c.in-Some.index es unique at
    ∙ sym (cond-true (has c.args.source (sources_of es)) (advance_at crc_more 0xFFFF c.args.timeout c.args.source r es) (opened c.args.timeout (port_of (extent_bytes g.S.Shape.shape) c.args.self.now) es c.args.source r)
    (known-has c.args.source c.in-Some.index es at)))

pub returns-in-Some-clause-answer : goal.returns-in-Some-clause-answer
returns-in-Some-clause-answer g c =
    let es = entries_of c.args.self.now.sessions.entries in
    let r = record_of c.args.frame.now in
    let at = sym c.in-Some.ensures.index in
    ap OfSession (c.step_at-step.ensures.outcome ∙ known-outcome c.args.timeout c.args.source r c.in-Some.index es at)
    ∙ sym (cond-true (has c.args.source (sources_of es)) (OfSession (outcome_at crc_more 0xFFFF c.args.timeout c.args.source r es)) (opened_answer c.args.timeout (port_of (extent_bytes g.S.Shape.shape) c.args.self.now) es r)
    (known-has c.args.source c.in-Some.index es at))

pub returns-in-None-clause-entries : goal.returns-in-None-clause-entries
returns-in-None-clause-entries g c =
    let es = entries_of c.args.self.now.sessions.entries in
    let r = record_of c.args.frame.now in
    let at = sym c.in-None.ensures.index in
    subst (λ (t : List Entry). OnOk c.meet_new.result (entries_of c.meet_new.new.self.sessions.entries ≡ t))
    (sym (cond-false (has c.args.source (sources_of es)) (advance_at crc_more 0xFFFF c.args.timeout c.args.source r es) (opened c.args.timeout (port_of (extent_bytes g.S.Shape.shape) c.args.self.now) es c.args.source r)
    (unknown-has c.args.source es at)))
    c.meet_new.ensures.entries

pub returns-in-None-clause-answer : goal.returns-in-None-clause-answer
returns-in-None-clause-answer g c =
    let es = entries_of c.args.self.now.sessions.entries in
    let r = record_of c.args.frame.now in
    let at = sym c.in-None.ensures.index in
    subst (λ (t : Answer). IfOk c.meet_new.result (λ m. met_answer (entries_of c.meet_new.new.self.sessions.entries) (record_of c.args.frame.now) m ≡ t))
    (sym (cond-false (has c.args.source (sources_of es)) (OfSession (outcome_at crc_more 0xFFFF c.args.timeout c.args.source r es)) (opened_answer c.args.timeout (port_of (extent_bytes g.S.Shape.shape) c.args.self.now) es r)
    (unknown-has c.args.source es at)))
    c.meet_new.ensures.answer

pub returns-in-None-clause-memory : goal.returns-in-None-clause-memory
returns-in-None-clause-memory g c =
    let es = entries_of c.args.self.now.sessions.entries in
    let at = sym c.in-None.ensures.index in
    let n = length-entries c.args.self.now.sessions.entries in
    on_err_both c.meet_new.result c.meet_new.ensures.start c.meet_new.ensures.room
    (λ start room. record { absent = unknown-has c.args.source es at; start = start; room = omega arith })

pub meet_new-requires-clause-absent : goal.meet_new-requires-clause-absent
meet_new-requires-clause-absent g c = unknown-has c.args.source (entries_of c.args.self.now.sessions.entries) (sym c.in-None.ensures.index)

pub returns-in-Some-clause-place : goal.returns-in-Some-clause-place
returns-in-Some-clause-place g c =
    let es = entries_of c.args.self.now.sessions.entries in
    let there = known-at c.args.source c.in-Some.index (sources_of es) (sym c.in-Some.ensures.index) in (
      there,
      ap (λ (fs : List Entry). slice_get (sources_of fs) c.in-Some.index) c.step_at-step.ensures.entries
          ∙ (ap (λ (ss : List ℕ). slice_get ss c.in-Some.index) (sources-step c.args.timeout (record_of c.args.frame.now) es c.in-Some.index) ∙ there),
    )

pub returns-in-Some-clause-opened : goal.returns-in-Some-clause-opened
returns-in-Some-clause-opened g c =
    let has_it = known-has c.args.source c.in-Some.index (entries_of c.args.self.now.sessions.entries) (sym c.in-Some.ensures.index) in
    (λ e. absurd cc, λ opens. absurd (let none = opens.absent in cc))
