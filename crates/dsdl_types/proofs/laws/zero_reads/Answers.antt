use Rattle.dsdl_types.proofs.laws.zero_reads.Goals as goal
use Rattle.dsdl_types.proofs.ZeroReads.{zero_law}

pub returns : goal.returns
returns c = zero_law
