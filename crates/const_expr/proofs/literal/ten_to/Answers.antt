use Rattle.std.proofs.Common.{◌*◌, ◌^◌, ◌<◌, arith}
use Rattle.const_expr.proofs.LiteralLemmas.{power_small, next_small}
use Rattle.const_expr.proofs.literal.ten_to.Goals as goal

pub overflow_mul-power : goal.overflow_mul-power
overflow_mul-power c =
    let small : c.loop.power * 10 < 2 ^ 127 = next_small c.loop.power c.loop.counter c.loop.invariant (omega arith) in
    omega arith

pub returns-clause-small : goal.returns-clause-small
returns-clause-small c = power_small c.loop.power c.loop.counter c.loop.invariant (omega arith)
