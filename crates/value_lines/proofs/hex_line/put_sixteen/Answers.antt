use Rattle.line_text.specs.Buffer.{text_of}
use Rattle.value_lines.proofs.HexLine.{puts_sixteen}
use Rattle.value_lines.proofs.hex_line.put_sixteen.Goals as goal

pub returns-clause-put : goal.returns-clause-put
returns-clause-put c =
    puts_sixteen c.args.count c.args.hex.now c.in_ok-block.block (text_of c.args.bytes.now) (text_of c.put.new.self) c.requires.few c.in_ok-block.ensures c.put.ensures.text
