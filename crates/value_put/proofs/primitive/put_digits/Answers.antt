use Rattle.std.proofs.Common.{◌∙◌, ◌++◌, ◌/◌, sym, ap}
use Rattle.hex.specs.Hex.{encode_upper}
use Rattle.line_text.specs.Buffer.{text_of}
use Rattle.value_text.specs.Words.{hex_digits}
use Rattle.value_put.proofs.Digits.{eight_bytes, four_bytes, two_bytes}
use Rattle.value_put.proofs.primitive.put_digits.Goals as goal

pub returns-in-16-clause-text : goal.returns-in-16-clause-text
returns-in-16-clause-text c =
    let n = c.args.number in
    c.put_hex.ensures.text
    ∙ ap (λ d. text_of c.args.text.now ++ d) (ap encode_upper c.to_be_bytes.ensures ∙ two_bytes n ∙ sym (ap (λ b. hex_digits (b / 4) n) c.in-16.is))

pub returns-in-32-clause-text : goal.returns-in-32-clause-text
returns-in-32-clause-text c =
    let n = c.args.number in
    c.put_hex-in-32.ensures.text
    ∙ ap (λ d. text_of c.args.text.now ++ d) (ap encode_upper c.to_be_bytes-in-32.ensures ∙ four_bytes n ∙ sym (ap (λ b. hex_digits (b / 4) n) c.in-32.is))

pub returns-in-64-clause-text : goal.returns-in-64-clause-text
returns-in-64-clause-text c =
    let n = c.args.number in
    c.put_hex-in-64.ensures.text
    ∙ ap (λ d. text_of c.args.text.now ++ d) (ap encode_upper c.to_be_bytes-in-64.ensures ∙ eight_bytes n ∙ sym (ap (λ b. hex_digits (b / 4) n) c.in-64.is))
