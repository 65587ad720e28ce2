use Rattle.log_text.proofs.Logs.{text_is_short}
use Rattle.log_text.proofs.text_is_short.Goals as goal

pub returns : goal.returns
returns c = text_is_short
