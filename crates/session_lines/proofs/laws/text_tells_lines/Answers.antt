use Rattle.session_lines.proofs.OneReport.{text_tells_lines}
use Rattle.session_lines.proofs.laws.text_tells_lines.Goals as goal

pub returns : goal.returns
returns c = text_tells_lines
