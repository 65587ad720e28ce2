use Rattle.dsdl_types.proofs.laws.one_reading.Goals as goal
use Rattle.dsdl_types.proofs.Evolving.{reads_once}

pub returns : goal.returns
returns c = reads_once
