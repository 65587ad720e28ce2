use Rattle.log_gen.proofs.ReadBack.{reads}
use Rattle.log_gen.proofs.laws.each_reads.Goals as goal

pub returns : goal.returns
returns c = reads c.log_is_read.ensures c.text_is_short.ensures
