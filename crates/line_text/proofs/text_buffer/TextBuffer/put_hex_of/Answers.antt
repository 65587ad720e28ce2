use Rattle.std.proofs.Common.{◌≡◌, ◌∙◌, ◌≤◌, ◌+◌, ◌*◌, ◌/◌, ◌%◌, ◌-◌, refl, sym, ap, arith, length, take, drop, append_assoc, append-nil, take-take}
use Rattle.hex.specs.Hex.{encode_with, encode_upper}
use Rattle.line_text.specs.Buffer.{text_of}
use Rattle.line_text.proofs.Texts.{encode_block, encode_more}
use Rattle.line_text.proofs.text_buffer.TextBuffer.put_hex_of.Goals as goal

pub loop-block-init : goal.loop-block-init
unfolding encode_with
loop-block-init c = record {
  last = refl;
  text = sym (append-nil (text_of c.args.self.now));
  room = omega arith;
  wide = omega arith;
  whole = omega arith;
}

pub loop-block-preserved : goal.loop-block-preserved
loop-block-preserved c =
    let bytes = c.args.bytes.now in
    let i = 8 * c.loop-block.block in
    let rest = drop i bytes in
    let block = take (length bytes - i) rest in
    let within : 8 ≤ length bytes - i = omega arith in
    let same : take 8 block ≡ take 8 rest = take-take 8 (length bytes - i) rest within in
    let digits : take 16 c.hex_of_eight.result ≡ encode_upper (take 8 rest) =
    ap (λ t. take 16 t) c.hex_of_eight.ensures ∙ (encode_block 8 block (omega arith) ∙ ap encode_upper same) in
    let on : 8 * (c.loop-block.block + 1) ≡ i + 8 = omega arith in
    record {
      last = refl;
      text = c.put.ensures.text ∙ rw (c.loop-block.invariant.text, digits, append_assoc, encode_more i 8 bytes, on) refl;
      room = omega arith;
      wide = omega arith;
      whole = omega arith;
    }

pub returns-clause-text : goal.returns-clause-text
returns-clause-text c =
    let bytes = c.args.bytes.now in
    let n = c.args.n in
    let i = 8 * c.loop-block.block in
    let at : n / 8 * 8 ≡ i = omega arith in
    let k = n % 8 in
    let rest = drop i bytes in
    let block = take (length bytes - i) rest in
    let within : k ≤ length bytes - i = omega arith in
    let same : take k block ≡ take k rest = take-take k (length bytes - i) rest within in
    let whole : i + k ≡ n = omega arith in
    let digits : take (2 * k) c.hex_of_eight-2.result ≡ encode_upper (take k rest) =
    ap (λ t. take (2 * k) t) c.hex_of_eight-2.ensures ∙ (rw at (encode_block k block (omega arith) ∙ ap encode_upper same)) in
    c.put-2.ensures.text ∙ rw (c.loop-block.invariant.text, digits, append_assoc, encode_more i k bytes, whole) refl
