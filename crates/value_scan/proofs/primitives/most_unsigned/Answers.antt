use Rattle.std.proofs.Common.{◌≡◌, ◌∙◌, ◌-◌, ◌/◌, ◌^◌, ap, arith}
use Rattle.wire_values.proofs.Casts.{most_is}
use Rattle.value_scan.proofs.primitives.most_unsigned.Goals as goal

pub returns : goal.returns
returns c =
    let e : 64 - c.from.result ≡ 64 - c.args.bits = ap (λ n. 64 - n) c.from.ensures in
    ap (λ j. (2 ^ 64 - 1) / 2 ^ j) e ∙ most_is c.args.bits (64 - c.args.bits) (omega arith)
