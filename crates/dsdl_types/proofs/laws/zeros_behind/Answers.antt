use Rattle.dsdl_types.proofs.laws.zeros_behind.Goals as goal
use Rattle.dsdl_types.proofs.Padding.{zeros_law}

pub returns : goal.returns
returns c = zeros_law
