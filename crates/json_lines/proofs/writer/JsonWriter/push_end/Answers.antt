use Rattle.std.specs.Prelude.{codes}
use Rattle.json_lines.specs.Text.{begin, line_end, node_members, received_members}
use Rattle.json_lines.proofs.Lines.{four_written}
use Rattle.json_lines.proofs.writer.JsonWriter.push_end.Goals as goal

pub returns-clause-ok : goal.returns-clause-ok
returns-clause-ok c =
    four_written (begin (codes "end")) (received_members c.args.numbers.now) (node_members c.args.numbers.now) line_end _ _ _ _ _ _
    c.reserve.ensures.text c.put_slice.ensures.text c.put_received.ensures.text c.put_node.ensures.text c.put_slice-2.ensures.text
