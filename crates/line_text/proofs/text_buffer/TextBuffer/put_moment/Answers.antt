use Rattle.std.proofs.Common.{arith, ◌≤◌, ◌/◌, length, decimal}
use Rattle.std.proofs.lemmas.Fmt.{length-decimal-le}
use Rattle.line_text.proofs.text_buffer.TextBuffer.put_moment.Goals as goal

pub returns-clause-room : goal.returns-clause-room
returns-clause-room c =
    let fits = c.ranges.moment.fits in
    let seconds = c.args.moment / 1000000 in
    let long : length (decimal seconds) ≤ 14 = length-decimal-le 14 seconds (omega arith) (omega arith) (omega arith) in
    omega (arith, long, c.put_number.ensures.room, c.put_slice.ensures.room, c.put_six_digits.ensures.room)
