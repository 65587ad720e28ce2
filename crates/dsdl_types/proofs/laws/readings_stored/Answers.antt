use Rattle.dsdl_types.proofs.StoredReadings.{readings_stored, stored_fits}
use Rattle.dsdl_types.proofs.laws.readings_stored.Goals as goal

pub returns-clause-stored : goal.returns-clause-stored
returns-clause-stored c = readings_stored

pub returns-clause-fits : goal.returns-clause-fits
returns-clause-fits c = stored_fits
