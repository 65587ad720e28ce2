use Rattle.std.proofs.Common.{◌+◌, ◌-◌, ◌*◌, ◌%◌, ◌≤◌, length, drop, arith, subst}
use Rattle.std.proofs.lemmas.List.{take-take}
use Rattle.line_text.specs.Buffer.{text_of}
use Rattle.value_lines.specs.Digits.{PutsHex}
use Rattle.value_lines.proofs.HexLine.{puts_next}
use Rattle.value_lines.proofs.hex_line.put_long.Goals as goal

pub loop-block-preserved : goal.loop-block-preserved
loop-block-preserved c =
    let hex = c.args.hex.now in
    let rest = length hex % 16 in
    let block = c.loop-block.block in
    let at = rest + 16 * block in
    let more = c.in_ok-put_sixteen-2.ensures in
    let mid = text_of c.loop-block.bytes in
    let new = text_of c.put_sixteen-in-loop-block.new.bytes in
    let room : 16 ≤ length hex - at = omega (arith, c.loop-block-test.true) in
    record {
      put = puts_next at 16 (rest + 16 * (block + 1)) hex (text_of c.args.bytes.now) mid new (omega arith) c.loop-block.invariant.put
          (subst (λ l. PutsHex l mid new) (take-take 16 (length hex - at) (drop at hex) room) more.put);
      room = omega (arith, c.loop-block.invariant.room, more.room);
    }
