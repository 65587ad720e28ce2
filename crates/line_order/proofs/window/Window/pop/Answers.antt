use Rattle.std.proofs.Common.{◌∙◌, refl, sym}
use Rattle.line_text.specs.Buffer.{text_of}
use Rattle.line_order.specs.declared.window.Window.{Window}
use Rattle.line_order.proofs.Windows.{if_late, if_queued}
use Rattle.line_order.proofs.window.Window.pop.Goals as goal

pub returns-then-late_is_first-clause-pops : goal.returns-then-late_is_first-clause-pops
returns-then-late_is_first-clause-pops c =
    if_late c.pop_late.result c.args.self.now c.pop_late.new.self (text_of c.args.gathered.now) (text_of c.pop_late.new.gathered) (sym c.late_is_first.ensures ∙ c.if-late_is_first.true)
    c.pop_late.ensures.pops c.pop_late.ensures.queue c.pop_late.ensures.latest

pub returns-else-late_is_first-clause-pops : goal.returns-else-late_is_first-clause-pops
returns-else-late_is_first-clause-pops c =
    let old = c.args.self.now in
    let new : Window = record { queue = c.pop.new.self; late = old.late; latest = old.latest } in
    if_queued c.pop.result old new (text_of c.args.gathered.now) (text_of c.pop.new.gathered) (sym c.late_is_first.ensures ∙ c.if-late_is_first.false) c.pop.ensures refl refl
