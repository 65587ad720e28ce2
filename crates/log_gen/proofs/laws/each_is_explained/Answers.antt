use Rattle.log_gen.proofs.Explained.{explained}
use Rattle.log_gen.proofs.laws.each_is_explained.Goals as goal

pub returns : goal.returns
returns c = explained c.frames_are_seen.ensures c.unbroken.ensures
