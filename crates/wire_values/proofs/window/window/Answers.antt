use Rattle.std.proofs.Common.{◌≡◌, ◌+◌, ◌-◌, arith}
use Rattle.std.proofs.lemmas.List.{length-drop}
use Rattle.cy_bits.specs.Bits.{bits}
use Rattle.cy_bits.proofs.BitPlaces.{length_bits}
use Rattle.wire_values.proofs.Windows.{window_bits}
use Rattle.wire_values.proofs.window.window.Goals as goal

pub returns-then-count-len-clause-none : goal.returns-then-count-len-clause-none
returns-then-count-len-clause-none c =
    omega (arith, length-drop c.args.place (bits c.args.bytes.now), length_bits c.args.bytes.now, c.min-at.ensures)

pub returns-clause-some : goal.returns-clause-some
returns-clause-some c =
    let b = c.args.bytes.now in
    let p = c.args.place in
    let n = c.args.count in
    let at = c.min-at.result in
    let e : at + n - at ≡ n = omega arith in
    window_bits b p n at c.requires c.min-at.ensures (at + n - at) e (omega (arith, c.min-at.ensures))
