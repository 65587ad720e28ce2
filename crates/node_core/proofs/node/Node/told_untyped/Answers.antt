use Rattle.std.proofs.Common.{◌∙◌, Option, None, ap, sym}
use Rattle.dsdl_types.specs.Schemas.{Sch}
use Rattle.tail_frame.specs.Frames.{seen}
use Rattle.node_core.specs.Came.{answer_in}
use Rattle.node_core.specs.Told.{answer_lines}
use Rattle.node_core.specs.Quick.{quick_met}
use Rattle.node_core.proofs.node.Node.told_untyped.Goals as goal

pub returns-clause-line : goal.returns-clause-line
returns-clause-line c =
    let node = c.args.self.now in
    let f = seen c.args.quick.now.frame in
    c.untyped_line.ensures.line
    ∙ (ap (answer_lines None f) (c.lend-fed.ensures ∙ ap (answer_in node f) c.met.ensures)
    ∙ ap (λ (t : Option Sch). answer_lines t f (answer_in node f (quick_met c.args.quick.now))) (sym c.requires))
