use Rattle.std.proofs.Common.{◌≡◌, ◌∙◌, ◌≤◌, ◌++◌, ◌+◌, ◌*◌, ◌%◌, ◌-◌, refl, ap, arith, length, take, drop, append_assoc, take-take, add-zero, rules}
use Rattle.hex.specs.Hex.{encode_upper}
use Rattle.line_text.specs.Buffer.{text_of}
use Rattle.line_text.proofs.Texts.{encode_block, encode_more}
use Rattle.line_text.proofs.text_buffer.TextBuffer.put_long_hex.Goals as goal

pub loop-block-init : goal.loop-block-init
loop-block-init c =
    let before = text_of c.args.self.now in
    let n = length c.args.bytes.now % 8 in
    record {
      rest = search rules;
      last = search rules;
      text = rw add-zero (c.put.ensures.text ∙ (ap (λ t. before ++ take (2 * n) t) c.hex_of_eight.ensures ∙ ap (λ t. before ++ t) (encode_block n c.args.bytes.now (omega arith))));
      room = omega arith;
      whole = omega arith;
    }

pub loop-block-preserved : goal.loop-block-preserved
loop-block-preserved c =
    let before = text_of c.args.self.now in
    let bytes = c.args.bytes.now in
    let i = length bytes % 8 + 8 * c.loop-block.block in
    let rest = drop i bytes in
    let block = take (length bytes - i) rest in
    let within : 8 ≤ length bytes - i = omega arith in
    let same : take 8 block ≡ take 8 rest = take-take 8 (length bytes - i) rest within in
    let digits : take 16 c.hex_of_eight-in-loop-block.result ≡ encode_upper (take 8 rest) =
    ap (λ t. take 16 t) c.hex_of_eight-in-loop-block.ensures ∙ (encode_block 8 block (omega arith) ∙ ap encode_upper same) in
    let on : length bytes % 8 + 8 * (c.loop-block.block + 1) ≡ i + 8 = omega arith in
    record {
      rest = search rules;
      last = search rules;
      text =
          c.put-in-loop-block.ensures.text ∙ rw (c.loop-block.invariant.text, digits, append_assoc, encode_more i 8 bytes, on) refl;
      room = omega arith;
      whole = omega arith;
    }
