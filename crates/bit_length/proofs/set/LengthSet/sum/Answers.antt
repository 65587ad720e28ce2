use Rattle.std.proofs.Common.{◌+◌, arith}
use Rattle.std.proofs.lemmas.Result.{err_from_is_err_and}
use Rattle.bit_length.specs.Lengths.{Has, Sums}
use Rattle.bit_length.proofs.SetLemmas.{long_at, memory_short, ok_short}
use Rattle.bit_length.proofs.RepeatLemmas.{greatest_sum}
use Rattle.bit_length.proofs.set.LengthSet.sum.Goals as goal

pub returns-then-greatest-gt-LONGEST-clause-long :
    goal.returns-then-greatest-gt-LONGEST-clause-long
returns-then-greatest-gt-LONGEST-clause-long c =
    long_at (Sums (Has c.args.self.now) (Has c.args.o.now)) (c.max.result + c.max-2.result) (greatest_sum (Has c.args.self.now) (Has c.args.o.now) c.max.result c.max-2.result c.max.ensures.greatest c.max-2.ensures.greatest) (omega arith)

pub sum_within-requires : goal.sum_within-requires
sum_within-requires c = λ n h.
    let w = (greatest_sum (Has c.args.self.now) (Has c.args.o.now) c.max.result c.max-2.result c.max.ensures.greatest c.max-2.ensures.greatest).1 n h in omega arith

pub returns-in_err-sum_within-clause-long : goal.returns-in_err-sum_within-clause-long
returns-in_err-sum_within-clause-long c =
    let p = err_from_is_err_and c.from_residual.result c.from_residual.ensures.1 in
    rw (p.1, p.2) (memory_short (Sums (Has c.args.self.now) (Has c.args.o.now)) (c.max.result + c.max-2.result) (greatest_sum (Has c.args.self.now) (Has c.args.o.now) c.max.result c.max-2.result c.max.ensures.greatest c.max-2.ensures.greatest) (omega arith))

pub returns-clause-long : goal.returns-clause-long
returns-clause-long c =
    ok_short (Sums (Has c.args.self.now) (Has c.args.o.now)) (c.max.result + c.max-2.result) c.in_ok-sum_within.field-0 (greatest_sum (Has c.args.self.now) (Has c.args.o.now) c.max.result c.max-2.result c.max.ensures.greatest c.max-2.ensures.greatest) (omega arith)
