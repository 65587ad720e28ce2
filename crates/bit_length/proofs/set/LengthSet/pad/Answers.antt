use Rattle.std.proofs.Common.{◌+◌, ◌-◌, ◌/◌, ◌*◌, arith}
use Rattle.std.proofs.lemmas.Result.{err_from_is_err_and}
use Rattle.bit_length.specs.Lengths.{Has, Pads}
use Rattle.bit_length.proofs.SetLemmas.{long_at, memory_short, ok_short}
use Rattle.bit_length.proofs.RepeatLemmas.{greatest_pad}
use Rattle.bit_length.proofs.set.LengthSet.pad.Goals as goal

pub returns-then-greatest-gt-LONGEST-clause-long :
    goal.returns-then-greatest-gt-LONGEST-clause-long
returns-then-greatest-gt-LONGEST-clause-long c =
    long_at (Pads (Has c.args.self.now) c.args.to) ((c.max.result + (c.args.to - 1)) / c.args.to * c.args.to) (greatest_pad (Has c.args.self.now) c.max.result c.args.to c.requires c.max.ensures.greatest) (omega arith)

pub pad_within-requires-clause-short : goal.pad_within-requires-clause-short
pad_within-requires-clause-short c = λ k h.
    let w = (greatest_pad (Has c.args.self.now) c.max.result c.args.to c.requires c.max.ensures.greatest).1 k h in omega arith

pub returns-in_err-pad_within-clause-long : goal.returns-in_err-pad_within-clause-long
returns-in_err-pad_within-clause-long c =
    let p = err_from_is_err_and c.from_residual.result c.from_residual.ensures.1 in
    rw (p.1, p.2) (memory_short (Pads (Has c.args.self.now) c.args.to) ((c.max.result + (c.args.to - 1)) / c.args.to * c.args.to) (greatest_pad (Has c.args.self.now) c.max.result c.args.to c.requires c.max.ensures.greatest) (omega arith))

pub returns-clause-long : goal.returns-clause-long
returns-clause-long c =
    ok_short (Pads (Has c.args.self.now) c.args.to) ((c.max.result + (c.args.to - 1)) / c.args.to * c.args.to) c.in_ok-pad_within.field-0 (greatest_pad (Has c.args.self.now) c.max.result c.args.to c.requires c.max.ensures.greatest) (omega arith)
