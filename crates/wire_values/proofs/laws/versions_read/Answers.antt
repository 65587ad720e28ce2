use Rattle.wire_values.proofs.RoundTrips.{evolution}
use Rattle.wire_values.proofs.laws.versions_read.Goals as goal

pub returns : goal.returns
returns c = evolution
