use Rattle.std.proofs.Common.{arith, ◌≤◌, length, decimal}
use Rattle.std.proofs.lemmas.Fmt.{length-decimal-le}
use Rattle.line_text.proofs.text_buffer.TextBuffer.put_number.Goals as goal

pub returns-then-number-lt100000000-clause-most : goal.returns-then-number-lt100000000-clause-most
returns-then-number-lt100000000-clause-most c =
    let fits = c.ranges.number.fits in
    let long : length (decimal c.args.number) ≤ 20 = length-decimal-le 20 c.args.number (omega arith) (omega arith) (omega arith) in
    omega (arith, long, c.put_short_number.ensures.room)

pub returns-else-number-lt100000000-clause-most : goal.returns-else-number-lt100000000-clause-most
returns-else-number-lt100000000-clause-most c =
    let fits = c.ranges.number.fits in
    let long : length (decimal c.args.number) ≤ 20 = length-decimal-le 20 c.args.number (omega arith) (omega arith) (omega arith) in
    omega (arith, long, c.put_long_number.ensures.room)
