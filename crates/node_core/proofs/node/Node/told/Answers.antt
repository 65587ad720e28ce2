use Rattle.std.proofs.Common.{◌∙◌, ap, sym}
use Rattle.can_id.specs.Identifiers.{key_of}
use Rattle.tail_frame.specs.Frames.{FrameOf, seen}
use Rattle.node_core.specs.Came.{heard_lines, came_lines, met_lines}
use Rattle.node_core.specs.Told.{answer_lines}
use Rattle.report_lines.specs.Lent.{told_lines}
use Rattle.node_core.specs.Types.{type_at}
use Rattle.node_core.proofs.node.Node.told.Goals as goal

pub returns-in_err-heard-clause-line : goal.returns-in_err-heard-clause-line
unfolding came_lines
returns-in_err-heard-clause-line c =
    ap told_lines c.from_residual.ensures ∙ ap (heard_lines c.args.self.now c.args.rec.now) (sym c.in_err-heard.was)

pub returns-clause-line : goal.returns-clause-line
unfolding came_lines
returns-clause-line c =
    let node = c.args.self.now in
    let met = c.in_ok-heard.heard.met in
    let f = seen c.frame-frame.result in
    c.line_on.ensures.line
    ∙ (ap (answer_lines (type_at node.table (key_of f.ident)) f) c.lend.ensures
    ∙ (ap (λ (f : FrameOf). met_lines node f met) c.frame-frame.ensures
    ∙ ap (heard_lines node c.args.rec.now) (sym c.in_ok-heard.was)))
