use Rattle.std.proofs.Common.{◌∙◌, sym, ap}
use Rattle.std.specs.Option.{option_copied_mut}
use Rattle.rx_session.specs.Seen.{record_of}
use Rattle.rx_table.proofs.Buffered.{buffered-step}
use Rattle.rx_table.proofs.NthEntries.{entries-step, outcome-step, heard-at}
use Rattle.rx_table.proofs.port.Port.step_at.Goals as goal

pub step-requires : goal.step-requires
step-requires g c =
    heard-at c.args.frame.now.moment c.args.self.now.sessions.entries c.args.index c.unwrap-session.result.now c.requires.order
    (sym c.get_index_mut.ensures.value ∙ ap option_copied_mut c.unwrap-session.ensures)

pub returns-clause-entries : goal.returns-clause-entries
returns-clause-entries g c =
    entries-step c.args.timeout (record_of c.args.frame.now) c.args.self.now.sessions.entries c.args.index c.step.new.self c.unwrap-session.result.now
    (sym c.get_index_mut.ensures.value ∙ ap option_copied_mut c.unwrap-session.ensures) c.step.ensures.state

pub returns-clause-outcome : goal.returns-clause-outcome
returns-clause-outcome g c =
    outcome-step c.args.timeout (record_of c.args.frame.now) c.args.self.now.sessions.entries c.args.index c.step.new.self c.unwrap-session.result.now c.step.result
    (sym c.get_index_mut.ensures.value ∙ ap option_copied_mut c.unwrap-session.ensures) c.step.ensures.outcome

pub returns-clause-buffered : goal.returns-clause-buffered
returns-clause-buffered g c =
    buffered-step c.args.self.now.sessions.entries c.args.index c.step.new.self c.unwrap-session.result.now (sym c.get_index_mut.ensures.value ∙ ap option_copied_mut c.unwrap-session.ensures) c.step.ensures.size
