use Rattle.bit_length.proofs.set.LengthSet.members.Goals as goal

pub members-requires : goal.members-requires
members-requires c = rw c.get.ensures.value c.self.invariant
