use Rattle.frag.proofs.Seen.{explained_by_fields}
use Rattle.frag.proofs.laws.explained_by_fields.Goals as goal

pub returns : goal.returns
returns c = explained_by_fields
