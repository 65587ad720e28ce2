use Rattle.log_text.proofs.Logs.{log_is_read}
use Rattle.log_text.proofs.log_is_read.Goals as goal

pub returns : goal.returns
returns c = log_is_read
