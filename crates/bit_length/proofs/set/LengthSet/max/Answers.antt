use Rattle.std.proofs.Common.{◌+◌, arith}
use Rattle.bit_length.specs.Lengths.{Has}
use Rattle.bit_length.specs.Moved.{Moved}
use Rattle.bit_length.proofs.MovedLemmas.{moved_greatest, value_moved}
use Rattle.bit_length.proofs.SetLemmas.{greatest_same}
use Rattle.bit_length.proofs.set.LengthSet.max.Goals as goal

pub overflow_add-result : goal.overflow_add-result
overflow_add-result c =
    let short = c.self.invariant c.max.result c.max.ensures.greatest.0 in omega arith

pub returns-clause-greatest : goal.returns-clause-greatest
returns-clause-greatest c =
    let k = c.self.inside.shift in
    let xs = c.self.inside.runs in
    greatest_same (Moved k (Has xs)) (Has c.args.self.now) (k + c.max.result) (value_moved k xs c.args.self.now c.self.view_is) (moved_greatest k (Has xs) c.max.result c.max.ensures.greatest)

pub returns-clause-short : goal.returns-clause-short
returns-clause-short c = c.self.invariant c.max.result c.max.ensures.greatest.0
