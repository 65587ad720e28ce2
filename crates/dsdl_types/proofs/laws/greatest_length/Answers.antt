use Rattle.dsdl_types.proofs.laws.greatest_length.Goals as goal
use Rattle.dsdl_types.proofs.Greatest.{at_most}
use Rattle.dsdl_types.proofs.MetLengths.{longest_met}

pub returns : goal.returns
returns c = record {
  most = at_most;
  met = λ s h. longest_met s h.0;
}
