use Rattle.session_lines.proofs.Example.{example}
use Rattle.session_lines.proofs.laws.example.Goals as goal

pub returns : goal.returns
returns c = example
