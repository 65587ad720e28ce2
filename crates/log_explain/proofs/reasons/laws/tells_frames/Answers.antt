use Rattle.log_explain.proofs.Unheard.{tells_frames}
use Rattle.log_explain.proofs.reasons.laws.tells_frames.Goals as goal

pub returns : goal.returns
returns c = tells_frames
