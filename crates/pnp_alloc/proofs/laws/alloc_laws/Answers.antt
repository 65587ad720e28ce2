use Rattle.pnp_alloc.proofs.Given.{alloc_laws}
use Rattle.pnp_alloc.proofs.laws.alloc_laws.Goals as goal

pub returns : goal.returns
returns c = alloc_laws
