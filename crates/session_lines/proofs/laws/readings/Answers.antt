use Rattle.session_lines.proofs.Readings.{lines_have_readings}
use Rattle.session_lines.proofs.laws.readings.Goals as goal

pub returns : goal.returns
returns c = lines_have_readings
