use Rattle.std.proofs.Common.{◌-◌, length, arith, subst}
use Rattle.line_text.specs.Buffer.{text_of}
use Rattle.value_lines.specs.Digits.{IsHexOf}
use Rattle.value_lines.proofs.HexLine.{puts_short}
use Rattle.value_lines.proofs.hex_line.put_short.Goals as goal

pub returns-clause-put : goal.returns-clause-put
returns-clause-put c =
    let hex = c.args.hex.now in
    let block = c.in_ok-block.block in
    puts_short (length hex - 8) hex block (text_of c.args.bytes.now) (text_of c.put.new.self) (text_of c.put-2.new.self)
    (omega (arith, c.requires.some)) (omega (arith, c.requires.few)) (omega (arith, c.requires.some, c.requires.even))
    (subst (λ l. IsHexOf l block) c.joined.ensures c.in_ok-block.ensures) c.put.ensures.text c.put-2.ensures.text
