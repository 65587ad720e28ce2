use Rattle.std.proofs.Common.{◌∙◌, ◌++◌, ap, arith, take}
use Rattle.hex.specs.Hex.{encode_upper}
use Rattle.line_text.specs.Buffer.{text_of}
use Rattle.line_text.proofs.Texts.{encode_block}
use Rattle.line_text.proofs.text_buffer.TextBuffer.put_ident.Goals as goal

pub returns-clause-text : goal.returns-clause-text
returns-clause-text c =
    let before = text_of c.args.self.now in
    c.put.ensures.text
    ∙ (ap (λ t. before ++ take 8 t) c.hex_of_eight.ensures
    ∙ (ap (λ t. before ++ t) (encode_block 4 c.ident_block.result (omega arith)) ∙ ap (λ t. before ++ encode_upper t) c.ident_block.ensures))
