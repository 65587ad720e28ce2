use Rattle.log_text.proofs.Lines.{line_is_read}
use Rattle.log_text.proofs.line_is_read.Goals as goal

pub returns : goal.returns
returns c = line_is_read
