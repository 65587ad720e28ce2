use Rattle.dsdl_types.proofs.laws.cut_to_extent.Goals as goal
use Rattle.dsdl_types.proofs.Padding.{cut_law}

pub returns : goal.returns
returns c = cut_law
