use Rattle.std.proofs.Common.{◌∙◌, sym}
use Rattle.line_text.specs.Buffer.{text_of}
use Rattle.line_order.proofs.Windows.{let_go_more}
use Rattle.line_order.proofs.window.Window.release_to.Goals as goal

pub lines-preserved : goal.lines-preserved
lines-preserved c s =
    let r = c.lines.invariant s in
    let_go_more c.args.limit c.args.self.now c.lines.self c.pop.new.self (text_of c.args.gathered.now) (text_of c.lines.gathered) (text_of c.pop.new.gathered) c.in_ok-pop.field-0 r (sym (c.is_due.ensures r.sound) ∙ c.lines-test.true)
    (c.in_ok-pop.ensures.pops r.sound)
