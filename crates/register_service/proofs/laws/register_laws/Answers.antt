use Rattle.register_service.proofs.Told.{register_laws}
use Rattle.register_service.proofs.laws.register_laws.Goals as goal

pub returns : goal.returns
returns c = register_laws
