use Rattle.std.proofs.Common.{◌∙◌, ◌++◌, ◌-◌, ◌<◌, ◌≤◌, ◌^◌, ap, arith, negsuc, refl}
use Rattle.std.proofs.Math.Pow.{pow_mono}
use Rattle.cy_bits.specs.Bits.{bits_of}
use Rattle.dsdl_types.specs.Values.{Num}
use Rattle.wire_values.proofs.Casts.{signed_negative}
use Rattle.value_scan.specs.Written.{written}
use Rattle.value_scan.proofs.Steps.{negative_text, on_ok, within_half}
use Rattle.value_scan.proofs.primitives.scan_negative.Goals as goal

pub returns-clause-scanned : goal.returns-clause-scanned
returns-clause-scanned c =
    let n = c.in_ok-number.number in
    let w = c.args.bits in
    let half = 2 ^ (w - 1) - 1 in
    let one : 1 ≤ w = omega arith in
    let most : w ≤ 64 = omega arith in
    let short : w - 1 ≤ 63 = omega arith in
    let pow : 2 ^ (w - 1) ≤ 2 ^ 63 = pow_mono short in
    let some : 1 ≤ n = omega arith in
    let small : n - 1 ≤ half = omega (arith, c.most_signed.ensures) in
    let fits : n - 1 < 2 ^ 63 = omega (arith, small, pow) in
    on_ok c.put.result
    (λ e. record {
      value = Num (negsuc (n - 1));
      fits = fits;
      spelled = negative_text n _ _ _ some c.in_ok-eat.ensures c.in_ok-number.ensures;
      put = e
          ∙ ap (λ b. written c.args.out.now ++ bits_of b (2 ^ 64 - 1 - (n - 1))) c.from.ensures
          ∙ ap (λ l. written c.args.out.now ++ l) (signed_negative w (n - 1) half (n - 1) (negsuc (n - 1)) one most refl refl refl (within_half (n - 1) half small));
    }) c.put.ensures.bits
