use Rattle.line_text.specs.Buffer.{text_of}
use Rattle.line_order.proofs.Windows.{if_none, if_released}
use Rattle.line_order.proofs.window.Window.release.Goals as goal

pub returns-clause-released : goal.returns-clause-released
returns-clause-released c =
    let s = c.in-Some in
    if_released c.release_to.result c.args.window s.limit c.args.self.now c.release_to.new.self (text_of c.args.gathered.now) (text_of c.release_to.new.gathered) s.ensures.0 s.ensures.1 c.release_to.ensures.released

pub returns-clause-none : goal.returns-clause-none
returns-clause-none c =
    let s = c.in-Some in
    if_none c.release_to.result c.args.window s.limit c.args.self.now c.release_to.new.self (text_of c.args.gathered.now) (text_of c.release_to.new.gathered) s.ensures.0 s.ensures.1 c.release_to.ensures.released c.release_to.ensures.none
