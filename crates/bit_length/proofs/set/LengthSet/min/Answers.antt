use Rattle.std.proofs.Common.{◌+◌, arith}
use Rattle.bit_length.specs.Lengths.{Has}
use Rattle.bit_length.specs.Moved.{Moved}
use Rattle.bit_length.proofs.MovedLemmas.{moved_least, value_moved}
use Rattle.bit_length.proofs.SetLemmas.{least_same}
use Rattle.bit_length.proofs.set.LengthSet.min.Goals as goal

pub overflow_add-result : goal.overflow_add-result
overflow_add-result c =
    let short = c.self.invariant c.min.result c.min.ensures.0 in omega arith

pub returns : goal.returns
returns c =
    let k = c.self.inside.shift in
    let xs = c.self.inside.runs in
    least_same (Moved k (Has xs)) (Has c.args.self.now) (k + c.min.result) (value_moved k xs c.args.self.now c.self.view_is) (moved_least k (Has xs) c.min.result c.min.ensures)
