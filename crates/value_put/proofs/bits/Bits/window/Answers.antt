use Rattle.std.proofs.Common.{◌∙◌, ◌≤◌, length, take, refl, ap, arith}
use Rattle.cy_bits.specs.Bits.{bits}
use Rattle.value_put.specs.Counted.{counted}
use Rattle.value_put.proofs.Words.{window_of}
use Rattle.value_put.proofs.bits.Bits.window.Goals as goal

pub returns-clause-window : goal.returns-clause-window
unfolding counted
returns-clause-window c =
    let at = c.args.self.now in
    let n = c.args.count in
    let few : at.size ≤ length at.bytes.now = omega (arith, at.slack) in
    let w = window_of at.bytes.now at.size at.place n c.min-at.result (omega (arith, c.if-self-ne0.false)) few c.min-at.ensures (omega (arith, c.if-count-self.false, c.min-at.ensures)) in
    ((w.0, ap (λ l. bits (take n l)) c.bytes_from.ensures ∙ w.1), record { place = refl; size = refl; bytes = refl })
