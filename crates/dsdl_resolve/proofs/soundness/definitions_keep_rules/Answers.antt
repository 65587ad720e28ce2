use Rattle.dsdl_resolve.proofs.SoundFile.{definitions_keep_rules}
use Rattle.dsdl_resolve.proofs.soundness.definitions_keep_rules.Goals as goal

pub returns : goal.returns
returns c = definitions_keep_rules
