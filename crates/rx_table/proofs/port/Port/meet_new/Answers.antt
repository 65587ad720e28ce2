use Rattle.std.proofs.Common.{◌∙◌, sym, refl, nat_eq, rules, arith}
use Rattle.indexmap.proofs.CallerLemmas.{insert_entry-new}
use Rattle.rx_session.specs.Extents.{extent_bytes}
use Rattle.rx_session.specs.Seen.{record_of}
use Rattle.rx_table.specs.Ports.{sources_of}
use Rattle.rx_table.specs.Table.{port_of, entries_of}
use Rattle.rx_table.proofs.Buffered.{buffered-last}
use Rattle.rx_table.proofs.KnownSources.{absent-at}
use Rattle.rx_table.proofs.NewSources.{length-entries, full-entries, full-answer, put-last}
use Rattle.rx_table.proofs.port.Port.meet_new.Goals as goal

pub returns-then-index-self-clause-entries : goal.returns-then-index-self-clause-entries
returns-then-index-self-clause-entries g c =
    let es = c.args.self.now.sessions.entries in
    let n = length-entries es in
    sym (full-entries c.args.timeout (port_of (extent_bytes g.S.Shape.shape) c.args.self.now) (record_of c.args.frame.now) c.args.source (entries_of es) (omega arith))

pub returns-then-index-self-clause-answer : goal.returns-then-index-self-clause-answer
returns-then-index-self-clause-answer g c =
    let es = c.args.self.now.sessions.entries in
    let n = length-entries es in
    sym (full-answer c.args.timeout (port_of (extent_bytes g.S.Shape.shape) c.args.self.now) (record_of c.args.frame.now) (entries_of es) (search rules) (omega arith))

pub returns-clause-entries : goal.returns-clause-entries
returns-clause-entries g c =
    (put-last c.args.timeout (port_of (extent_bytes g.S.Shape.shape) c.args.self.now) (record_of c.args.frame.now) c.args.self.now.sessions.entries c.insert.new.self.entries
    c.args.source c.len-index.result c.in_ok-session.session c.step-step.new.self c.step-step.result c.if-not-frame.false (search rules) c.if-index-self.false
    c.in_ok-session.ensures c.step-step.ensures.state c.step-step.ensures.outcome
    (c.in_ok-insert.ensures.entries ∙ insert_entry-new nat_eq c.args.self.now.sessions c.args.source c.step-step.new.self c.requires.free)).entries

pub returns-clause-answer : goal.returns-clause-answer
returns-clause-answer g c =
    (put-last c.args.timeout (port_of (extent_bytes g.S.Shape.shape) c.args.self.now) (record_of c.args.frame.now) c.args.self.now.sessions.entries c.insert.new.self.entries
    c.args.source c.len-index.result c.in_ok-session.session c.step-step.new.self c.step-step.result c.if-not-frame.false (search rules) c.if-index-self.false
    c.in_ok-session.ensures c.step-step.ensures.state c.step-step.ensures.outcome
    (c.in_ok-insert.ensures.entries ∙ insert_entry-new nat_eq c.args.self.now.sessions c.args.source c.step-step.new.self c.requires.free)).answer

pub returns-clause-grown : goal.returns-clause-grown
returns-clause-grown g c =
    buffered-last c.args.self.now.sessions.entries c.insert.new.self.entries c.args.source (extent_bytes g.S.Shape.shape c.args.self.now.shape) c.in_ok-session.session c.step-step.new.self c.in_ok-session.ensures
    c.step-step.ensures.size (c.in_ok-insert.ensures.entries ∙ insert_entry-new nat_eq c.args.self.now.sessions c.args.source c.step-step.new.self c.requires.free)

pub returns-then-not-frame-clause-place : goal.returns-then-not-frame-clause-place
returns-then-not-frame-clause-place g c i e = absent-at c.args.source i (sources_of (entries_of c.args.self.now.sessions.entries)) c.requires.absent e

pub returns-then-index-self-clause-place : goal.returns-then-index-self-clause-place
returns-then-index-self-clause-place g c i e = absent-at c.args.source i (sources_of (entries_of c.args.self.now.sessions.entries)) c.requires.absent e

pub returns-clause-place : goal.returns-clause-place
returns-clause-place g c = (
  λ i e. absent-at c.args.source i (sources_of (entries_of c.args.self.now.sessions.entries)) c.requires.absent e,
  (put-last c.args.timeout (port_of (extent_bytes g.S.Shape.shape) c.args.self.now) (record_of c.args.frame.now) c.args.self.now.sessions.entries c.insert.new.self.entries
      c.args.source c.len-index.result c.in_ok-session.session c.step-step.new.self c.step-step.result c.if-not-frame.false (search rules) c.if-index-self.false
      c.in_ok-session.ensures c.step-step.ensures.state c.step-step.ensures.outcome
      (c.in_ok-insert.ensures.entries ∙ insert_entry-new nat_eq c.args.self.now.sessions c.args.source c.step-step.new.self c.requires.free)).place,
)

pub returns-clause-opened : goal.returns-clause-opened
returns-clause-opened g c =
    let n = length-entries c.args.self.now.sessions.entries in
    (λ _. record { absent = c.requires.absent; start = search rules; room = omega arith }, λ _. refl)

pub returns-then-index-self-clause-opened : goal.returns-then-index-self-clause-opened
returns-then-index-self-clause-opened g c =
    let n = length-entries c.args.self.now.sessions.entries in
    (λ e. absurd cc, λ opens. absurd (let room = opens.room in omega arith))
