use Rattle.dsdl_types.proofs.laws.evolution.Goals as goal
use Rattle.dsdl_types.proofs.Evolving.{evolution_holds}

pub returns : goal.returns
returns c = evolution_holds
