-- Bits 22 and 21 of a message are free: the witness is what they are.
use Rattle.std.proofs.Common.{arith, ◌/◌, ◌%◌}
use Rattle.can_id.proofs.wire.parse.Goals as goal

pub returns-then-is_second-clause-meaning : goal.returns-then-is_second-clause-meaning
returns-then-is_second-clause-meaning c =
    ((omega arith, omega arith, omega arith), (c.args.bits / 128 % 65536 / 2 / 8192, omega arith, omega arith))

pub returns-clause-meaning : goal.returns-clause-meaning
returns-clause-meaning c =
    ((omega arith, omega arith, omega arith), (c.args.bits / 128 % 65536 / 2 / 8192, omega arith, omega arith))
