use Rattle.dsdl_types.proofs.laws.reaches.Goals as goal
use Rattle.dsdl_types.proofs.Reaching.{own_reach}
use Rattle.dsdl_types.proofs.ReachBound.{reach_within}

pub returns : goal.returns
returns c = record {
  ends = own_reach;
  bound = reach_within;
}
