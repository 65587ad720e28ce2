use Rattle.wire_values.proofs.RoundTrips.{round_trip}
use Rattle.wire_values.proofs.laws.written_reads.Goals as goal

pub returns : goal.returns
returns c = round_trip
