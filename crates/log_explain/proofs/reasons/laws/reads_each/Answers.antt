use Rattle.log_explain.proofs.Discards.{reads_each}
use Rattle.log_explain.proofs.reasons.laws.reads_each.Goals as goal

pub returns : goal.returns
returns c = reads_each
