use Rattle.dsdl_types.proofs.laws.within_extent.Goals as goal
use Rattle.dsdl_types.proofs.Evolving.{encoding_most}

pub returns : goal.returns
returns c = λ s sound composite v fits. encoding_most s v sound composite fits
