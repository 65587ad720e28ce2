use Rattle.std.proofs.Common.{◌≡◌, ◌∙◌, ◌++◌, ◌*◌, ◌/◌, ◌<◌, ◌^◌, ap, arith, subst}
use Rattle.std.specs.Prelude.{codes}
use Rattle.cy_bits.specs.Bits.{bits_of}
use Rattle.dsdl_types.specs.Values.{Raw}
use Rattle.value_scan.specs.Written.{written}
use Rattle.value_scan.proofs.Steps.{on_ok}
use Rattle.value_scan.proofs.primitives.scan_float.Goals as goal

pub returns-clause-scanned : goal.returns-clause-scanned
returns-clause-scanned c =
    let n = c.in_ok-raw.raw in
    let w = c.args.bits in
    let whole : 4 * (w / 4) ≡ w = omega arith in
    let fits : n < 2 ^ w = subst (λ m. n < 2 ^ m) whole c.in_ok-raw.ensures.0 in
    on_ok c.put.result
    (λ e cast. record {
      value = Raw n;
      fits = fits;
      spelled = c.in_ok-eat.ensures ∙ ap (λ t. codes "0x" ++ t) c.in_ok-raw.ensures.1;
      put = e ∙ ap (λ b. written c.args.out.now ++ bits_of b n) c.from.ensures;
    }) c.put.ensures.bits
