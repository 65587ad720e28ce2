use Rattle.dsdl_types.proofs.laws.round_trip.Goals as goal
use Rattle.dsdl_types.proofs.Evolving.{round_trips}

pub returns : goal.returns
returns c = round_trips
