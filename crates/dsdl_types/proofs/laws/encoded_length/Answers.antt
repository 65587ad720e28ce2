use Rattle.dsdl_types.proofs.laws.encoded_length.Goals as goal
use Rattle.dsdl_types.proofs.MetLengths.{own_length}

pub returns : goal.returns
returns c = λ s sound v fits. own_length s v sound fits
