use Rattle.std.proofs.Common.{◌∙◌, ◌++◌, ◌-◌, ◌<◌, ◌≤◌, ◌^◌, arith, pos}
use Rattle.std.proofs.Math.Pow.{pow_mono}
use Rattle.cy_bits.specs.Bits.{bits_of}
use Rattle.dsdl_types.specs.Values.{Num}
use Rattle.value_scan.specs.Written.{written}
use Rattle.value_scan.proofs.Steps.{on_ok, within_half}
use Rattle.value_scan.proofs.primitives.scan_positive.Goals as goal

pub returns-clause-scanned : goal.returns-clause-scanned
returns-clause-scanned c =
    let n = c.in_ok-number.number in
    let w = c.args.bits in
    let short : w - 1 ≤ 63 = omega arith in
    let pow : 2 ^ (w - 1) ≤ 2 ^ 63 = pow_mono short in
    let small : n ≤ 2 ^ (w - 1) - 1 = omega (arith, c.most_signed.ensures) in
    let most : n < 2 ^ 64 = omega (arith, small, pow) in
    on_ok c.put.result
    (λ e. record {
      value = Num (pos n);
      fits = most;
      spelled = c.in_ok-number.ensures;
      put = e ∙ (λ i. written c.args.out.now ++ bits_of (c.from.ensures i) (within_half n (2 ^ (w - 1) - 1) small i));
    }) c.put.ensures.bits
