use Rattle.std.proofs.Common.{◌+◌, ◌*◌, ◌≤◌, length, arith, subst}
use Rattle.line_text.specs.Buffer.{text_of}
use Rattle.value_lines.specs.Digits.{PutsHex}
use Rattle.value_lines.proofs.HexLine.{puts_next, two_at}
use Rattle.value_lines.proofs.hex_line.put_few.Goals as goal

pub loop-pair-preserved : goal.loop-pair-preserved
loop-pair-preserved c =
    let hex = c.args.hex.now in
    let i = 2 * c.loop-pair.pair in
    let old = text_of c.args.bytes.now in
    let mid = text_of c.loop-pair.bytes in
    let new = text_of c.put_pair.new.bytes in
    let room : i + 2 ≤ length hex = omega (arith, c.loop-pair-test.true) in
    record {
      put = puts_next i 2 (2 * (c.loop-pair.pair + 1)) hex old mid new (omega arith) c.loop-pair.invariant.put
          (subst (λ l. PutsHex l mid new) (two_at i (i + 1) hex (omega arith) room) c.in_ok-put_pair.ensures.put);
      room = omega (arith, c.loop-pair.invariant.room, c.in_ok-put_pair.ensures.room);
    }
