use Rattle.std.proofs.Common.{◌≡◌, ◌∙◌, ℕ, ◌+◌, ◌-◌, ◌*◌, ◌/◌, length, take, drop, take_all, length-drop, ap, arith}
use Rattle.transfer_crc.specs.Crc.{crc_more}
use Rattle.transfer_crc.proofs.Blocks.{block-next, block-last}
use Rattle.transfer_crc.proofs.Crc.add.Goals as goal

pub loop-block-preserved : goal.loop-block-preserved
loop-block-preserved c =
    let bytes = c.args.bytes.now in
    let at = 8 * c.loop-block.block in
    let register = c.loop-block.self-inside.register in
    let eight : at + 8 - at ≡ 8 = omega arith in
    block-next c.args.self.now at (8 * (c.loop-block.block + 1)) 8 bytes register c.after_eight-self-inside.result (omega arith) c.loop-block.invariant
    (c.after_eight-self-inside.ensures ∙ ap (λ (n : ℕ). crc_more register (take n (drop at bytes))) eight)

pub returns : goal.returns
returns c =
    let bytes = c.args.bytes.now in
    let register = c.loop-block.self-inside.register in
    let last = 8 * (length bytes / 8) in
    let size = length-drop last bytes in
    let all : take (length bytes - last) (drop last bytes) ≡ drop last bytes = take_all (length bytes - last) (drop last bytes) (omega arith) in
    let same : last ≡ 8 * c.loop-block.block = let end = c.loop-block.auto.block-end in let past = c.loop-block-test.false in omega arith in
    block-last c.args.self.now (8 * c.loop-block.block) bytes register c.after_few-self-inside.result c.loop-block.invariant
    (c.after_few-self-inside.ensures ∙ (ap (crc_more register) all ∙ ap (λ (n : ℕ). crc_more register (drop n bytes)) same))
