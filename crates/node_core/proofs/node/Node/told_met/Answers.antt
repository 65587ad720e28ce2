use Rattle.std.proofs.Common.{◌∙◌, ap}
use Rattle.can_id.specs.Identifiers.{key_of}
use Rattle.tail_frame.specs.Frames.{seen}
use Rattle.node_core.specs.Told.{answer_lines}
use Rattle.node_core.specs.Types.{type_at}
use Rattle.node_core.proofs.node.Node.told_met.Goals as goal

pub returns-clause-line : goal.returns-clause-line
returns-clause-line c =
    let f = seen c.args.frame.now in
    c.line_on.ensures.line ∙ ap (answer_lines (type_at c.args.self.now.table (key_of f.ident)) f) c.lend.ensures
