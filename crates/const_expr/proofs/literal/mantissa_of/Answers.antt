use Rattle.std.proofs.Common.{◌^◌}
use Rattle.const_expr.specs.Literal.{digits}
use Rattle.const_expr.proofs.LiteralLemmas.{front_too_great}
use Rattle.const_expr.proofs.literal.mantissa_of.Goals as goal

pub returns-in-None : goal.returns-in-None
returns-in-None c = front_too_great (digits c.args.front.now) (digits c.args.back.now) (2 ^ 128) c.in-None.ensures
