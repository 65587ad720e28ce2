use Rattle.std.proofs.Common.{◌≡◌, ◌+◌, ◌<◌, ◌≤◌, length, arith, rules, get_or, Fits, w8}
use Rattle.value_scan.proofs.DigitLemmas.{digit_text}
use Rattle.value_scan.proofs.digits.digits_at.Goals as goal

pub returns-then-bytes-eq1 : goal.returns-then-bytes-eq1
returns-then-bytes-eq1 c =
    let b = c.args.bytes.now in
    let v = c.from.result in
    let some : 0 < length b = search rules in
    let byte : Fits w8 (get_or b 0 0) = c.type_inv.bytes 0 in
    let small : v ≤ 9 = omega (arith, c.from.ensures, c.if-first-gt9.false) in
    let is : get_or b 0 0 ≡ 48 + v = omega (arith, byte.fits, c.from.ensures, small) in
    digit_text b v some is small
