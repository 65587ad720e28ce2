use Rattle.frag.proofs.Seen.{frames_are_seen}
use Rattle.frag.proofs.laws.frames_are_seen.Goals as goal

pub returns : goal.returns
returns c = frames_are_seen
