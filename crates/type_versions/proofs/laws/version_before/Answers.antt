use Rattle.type_versions.proofs.Neighbours.{pairs_are}
use Rattle.type_versions.proofs.laws.version_before.Goals as goal

pub returns : goal.returns
returns c = pairs_are
