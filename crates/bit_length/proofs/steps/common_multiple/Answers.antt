use Rattle.std.proofs.Common.{◌/◌, ap, ◌∙◌, ◌%◌}
use Rattle.std.proofs.Math.Nat.{mul-mod_left}
use Rattle.bit_length.proofs.steps.common_multiple.Goals as goal

pub returns-clause-multiple : goal.returns-clause-multiple
returns-clause-multiple c =
    ap (λ t. t % c.args.b) c.in_ok-multiple.ensures.1 ∙ mul-mod_left (c.args.a / c.common_divisor.result) c.args.b
