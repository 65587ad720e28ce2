use Rattle.std.proofs.Common.{◌∙◌, ◌++◌, ◌<◌, ◌≤◌, ◌^◌, arith, pos}
use Rattle.std.proofs.Math.Pow.{pow_mono}
use Rattle.std.proofs.lemmas.Nat.{pow_pos}
use Rattle.cy_bits.specs.Bits.{bits_of}
use Rattle.dsdl_types.specs.Values.{Num}
use Rattle.value_scan.specs.Written.{written}
use Rattle.value_scan.proofs.Steps.{cast_small, on_ok}
use Rattle.value_scan.proofs.primitives.scan_unsigned.Goals as goal

pub returns-clause-scanned : goal.returns-clause-scanned
returns-clause-scanned c =
    let n = c.in_ok-number.number in
    let w = c.args.bits in
    let short : w ≤ 64 = omega arith in
    let pow : 2 ^ w ≤ 2 ^ 64 = pow_mono short in
    let some = pow_pos w in
    let small : n < 2 ^ w = omega (arith, c.most_unsigned.ensures) in
    let most : n < 2 ^ 64 = omega (arith, small, pow) in
    on_ok c.put.result
    (λ e cast. record {
      value = Num (pos n);
      fits = most;
      spelled = c.in_ok-number.ensures;
      put = e ∙ (λ i. written c.args.out.now ++ bits_of (c.from.ensures i) (cast_small w n cast small i));
    }) c.put.ensures.bits
