use Rattle.cyphal.proofs.Parts.{begins_part}
use Rattle.cyphal.proofs.error_line.put_parts.Goals as goal

pub returns-in_default-clause-begins : goal.returns-in_default-clause-begins
returns-in_default-clause-begins g c = begins_part c.args.parts.now c.loop-part.part-index _ _ _ _ c.loop-part-test.true c.loop-part.invariant.written c.in_default.ensures.begins
