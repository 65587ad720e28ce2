use Rattle.std.proofs.Common.{◌+◌, ◌*◌, ◌≤◌, drop, arith}
use Rattle.cy_bits.specs.Bits.{bits}
use Rattle.value_put.specs.Counted.{counted}
use Rattle.value_put.proofs.Words.{counted_bits, number_small}
use Rattle.value_put.proofs.bits.Bits.number.Goals as goal

pub returns-then-place-from-le64-clause-value : goal.returns-then-place-from-le64-clause-value
unfolding counted
returns-then-place-from-le64-clause-value c =
    let at = c.args.self.now in
    let h : at.place + c.args.width ≤ 8 * at.size = omega (arith, c.if-place-from.true, c.from.ensures) in
    counted_bits at.bytes.now at.size at.place c.args.width c.bits_at.result h c.bits_at.ensures

pub returns-then-place-from-le64-clause-small : goal.returns-then-place-from-le64-clause-small
returns-then-place-from-le64-clause-small c = number_small (drop c.args.self.now.place (bits c.args.self.now.bytes.now)) c.args.width c.bits_at.result c.bits_at.ensures
