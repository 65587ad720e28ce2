use Rattle.time_sync.proofs.Told.{sync_laws}
use Rattle.time_sync.proofs.laws.sync_laws.Goals as goal

pub returns : goal.returns
returns c = sync_laws
