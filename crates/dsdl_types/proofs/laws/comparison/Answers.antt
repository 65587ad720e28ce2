use Rattle.dsdl_types.proofs.laws.comparison.Goals as goal
use Rattle.dsdl_types.proofs.Comparing.{compares}

pub returns : goal.returns
returns c = compares
