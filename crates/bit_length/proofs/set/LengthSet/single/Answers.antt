use Rattle.std.proofs.Common.{refl, arith}
use Rattle.bit_length.proofs.MovedLemmas.{only_moved}
use Rattle.bit_length.proofs.set.LengthSet.single.Goals as goal

pub overflow_add-result : goal.overflow_add-result
overflow_add-result c =
    let member = rw c.get.ensures.value at c.in_ok-n.ensures.member in
    let short = c.self.invariant c.in_ok-n.n ((member c.in_ok-n.n).0 refl) in
    omega arith

pub returns : goal.returns
returns c =
    only_moved c.self.inside.shift c.in_ok-n.n c.self.inside.runs c.args.self.now c.self.view_is (rw c.get.ensures.value at c.in_ok-n.ensures.member)
