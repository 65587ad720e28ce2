use Rattle.std.proofs.Common.{append_assoc}
use Rattle.bus_survey.proofs.lines.put_counts.Goals as goal

pub returns : goal.returns
returns c = simp (c.put_slice.ensures.text, c.put_number-2.ensures.text, c.put_number.ensures.text, c.put_count-5.ensures.text, c.put_count-4.ensures.text, c.put_count-3.ensures.text, c.put_count-2.ensures.text, c.put_count.ensures.text, append_assoc)
