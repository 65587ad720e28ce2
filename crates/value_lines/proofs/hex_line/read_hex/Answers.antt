use Rattle.std.proofs.Common.{◌∙◌, ◌/◌, length, replicate, refl, arith, subst}
use Rattle.line_text.specs.Buffer.{text_of}
use Rattle.value_lines.specs.Digits.{PutsHex}
use Rattle.value_lines.proofs.HexLine.{read}
use Rattle.value_lines.proofs.hex_line.read_hex.Goals as goal

pub returns-clause-read : goal.returns-clause-read
returns-clause-read c =
    let hex = c.args.hex.now in
    let mid = text_of c.put_bytes.new.bytes in
    read (length hex / 2) hex mid (replicate 16 0) (text_of c.put.new.self) (omega (arith, c.if-hex-ne0.false)) refl
    (subst (λ t. PutsHex hex t mid) (c.in_ok-reserve.ensures.text ∙ c.clear.ensures.text) c.in_ok-put_bytes.ensures.put) refl c.put.ensures.text
