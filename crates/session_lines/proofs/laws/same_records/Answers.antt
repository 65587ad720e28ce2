use Rattle.session_lines.proofs.SameRecords.{same_records}
use Rattle.session_lines.proofs.laws.same_records.Goals as goal

pub returns : goal.returns
returns c = same_records
