use Rattle.dsdl_types.proofs.laws.padded_payload.Goals as goal
use Rattle.dsdl_types.proofs.Padding.{padded_law}

pub returns : goal.returns
returns c = padded_law
