use Rattle.frame_log.proofs.reader.LogReader.next_record.Goals as goal

pub returns-in-Ok-true-clause-next : goal.returns-in-Ok-true-clause-next
returns-in-Ok-true-clause-next g c = rw c.in-Ok-true.field-0-test at c.in-Ok-true.ensures.next
