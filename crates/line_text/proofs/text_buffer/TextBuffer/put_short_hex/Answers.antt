use Rattle.std.proofs.Common.{◌∙◌, ◌++◌, ◌*◌, ap, arith, length, take}
use Rattle.hex.specs.Hex.{encode_upper}
use Rattle.line_text.specs.Buffer.{text_of}
use Rattle.line_text.proofs.Texts.{encode_block}
use Rattle.line_text.proofs.text_buffer.TextBuffer.put_short_hex.Goals as goal

pub returns-clause-text : goal.returns-clause-text
returns-clause-text c =
    let before = text_of c.args.self.now in
    let n = length c.args.bytes.now in
    c.put.ensures.text
    ∙ (ap (λ t. before ++ take (2 * n) t) c.hex_of_eight.ensures
    ∙ (ap (λ t. before ++ t) (encode_block n c.padded.result (omega arith)) ∙ ap (λ t. before ++ encode_upper t) c.padded.ensures))
