use Rattle.std.proofs.Common.{rules}
use Rattle.dsdl_types.proofs.laws.shape_laws.Goals as goal
use Rattle.dsdl_types.proofs.Padding.{keeps_readings}

pub returns : goal.returns
returns g c = search (rules, keeps_readings)
