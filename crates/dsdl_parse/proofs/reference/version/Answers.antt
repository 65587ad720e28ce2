use Rattle.std.proofs.Common.{arith}
use Rattle.dsdl_parse.proofs.Versions.{next_digit}
use Rattle.dsdl_parse.proofs.reference.version.Goals as goal

pub overflow_mul-number : goal.overflow_mul-number
overflow_mul-number c =
    let next = next_digit c.args.digits.now c.loop-b.number c.loop-b.b-index (omega arith) c.loop-b.invariant in omega (arith, next.small)

pub overflow_add-number : goal.overflow_add-number
overflow_add-number c =
    let next = next_digit c.args.digits.now c.loop-b.number c.loop-b.b-index (omega arith) c.loop-b.invariant in omega (arith, next.small)
