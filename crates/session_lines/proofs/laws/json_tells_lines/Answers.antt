use Rattle.session_lines.proofs.OneJson.{json_tells_lines}
use Rattle.session_lines.proofs.laws.json_tells_lines.Goals as goal

pub returns : goal.returns
returns c = json_tells_lines
