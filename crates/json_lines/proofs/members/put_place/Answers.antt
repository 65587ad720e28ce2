use Rattle.std.proofs.Common.{append_assoc}
use Rattle.json_lines.proofs.members.put_place.Goals as goal

pub returns-clause-text : goal.returns-clause-text
returns-clause-text c =
    rw (
      c.put_slice-3.ensures.text,
      c.put_bus.ensures.text,
      c.put_slice-2.ensures.text,
      c.put_moment.ensures.text,
      c.put_slice.ensures.text,
    ) (simp append_assoc)
