use Rattle.std.proofs.Common.{◌∙◌, sym, ap, List, ℕ}
use Rattle.rx_session.specs.Seen.{record_of, step_answer}
use Rattle.rx_table.proofs.NthEntries.{buffer-some, buffer-none}
use Rattle.rx_table.proofs.port.Port.lend_at.Goals as goal

pub returns-in-Some : goal.returns-in-Some
returns-in-Some g c =
    c.lend.ensures ∙ ap (λ (b : List ℕ). step_answer b (record_of c.args.frame.now) c.args.step) (sym (buffer-some c.args.self.now.sessions.entries c.args.index (c.in-Some.field-0-0.now, c.in-Some.session.now) (sym c.in-Some.ensures.entry)))

pub returns-in-None : goal.returns-in-None
returns-in-None g c =
    c.lend-in-None.ensures ∙ ap (λ (b : List ℕ). step_answer b (record_of c.args.frame.now) c.args.step) (sym (buffer-none c.args.self.now.sessions.entries c.args.index (sym c.in-None.ensures.entry)))
