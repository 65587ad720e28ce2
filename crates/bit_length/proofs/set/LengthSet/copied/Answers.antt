use Rattle.bit_length.proofs.set.LengthSet.copied.Goals as goal

pub invariant_of-result : goal.invariant_of-result
invariant_of-result c = rw c.in_ok-copy.ensures.value c.self.invariant
