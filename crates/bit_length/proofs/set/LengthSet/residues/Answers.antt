use Rattle.bit_length.proofs.set.LengthSet.residues.Goals as goal

pub residues-requires-clause-short : goal.residues-requires-clause-short
residues-requires-clause-short c = rw c.get.ensures.value c.self.invariant
