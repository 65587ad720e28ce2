use Rattle.std.proofs.Common.{◌*◌, arith}
use Rattle.std.proofs.lemmas.Result.{err_from_is_err_and}
use Rattle.bit_length.specs.Lengths.{Has, Repeats}
use Rattle.bit_length.proofs.SetLemmas.{long_at, memory_short, ok_short}
use Rattle.bit_length.proofs.RepeatLemmas.{greatest_repeat}
use Rattle.bit_length.proofs.set.LengthSet.repeat.Goals as goal

pub returns-then-greatest-gt-LONGEST-clause-long :
    goal.returns-then-greatest-gt-LONGEST-clause-long
returns-then-greatest-gt-LONGEST-clause-long c =
    long_at (Repeats (Has c.args.self.now) c.args.n) (c.max.result * c.args.n) (greatest_repeat (Has c.args.self.now) c.max.result c.max.ensures.greatest c.args.n) (omega arith)

pub repeat_within-requires : goal.repeat_within-requires
repeat_within-requires c = λ k h.
    let w = (greatest_repeat (Has c.args.self.now) c.max.result c.max.ensures.greatest c.args.n).1 k h in omega arith

pub returns-in_err-repeat_within-clause-long : goal.returns-in_err-repeat_within-clause-long
returns-in_err-repeat_within-clause-long c =
    let p = err_from_is_err_and c.from_residual.result c.from_residual.ensures.1 in
    rw (p.1, p.2) (memory_short (Repeats (Has c.args.self.now) c.args.n) (c.max.result * c.args.n) (greatest_repeat (Has c.args.self.now) c.max.result c.max.ensures.greatest c.args.n) (omega arith))

pub returns-clause-long : goal.returns-clause-long
returns-clause-long c =
    ok_short (Repeats (Has c.args.self.now) c.args.n) (c.max.result * c.args.n) c.in_ok-repeat_within.field-0 (greatest_repeat (Has c.args.self.now) c.max.result c.max.ensures.greatest c.args.n) (omega arith)
