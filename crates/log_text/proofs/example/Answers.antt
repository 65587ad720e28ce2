use Rattle.log_text.proofs.Rows.{example}
use Rattle.log_text.proofs.example.Goals as goal

pub returns : goal.returns
returns c = example
